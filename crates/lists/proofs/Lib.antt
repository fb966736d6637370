pub mod Records
pub mod Verdicts
pub mod Cycle
pub mod OneMore
pub mod Accepted
pub mod RoundTrip
pub mod Writing

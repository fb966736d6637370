pub mod Records
pub mod Walk
pub mod Forms
pub mod Meaning
pub mod Writing
pub mod Cases

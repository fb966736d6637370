pub mod Packed
pub mod Turns
pub mod Widths
pub mod Records
pub mod Places
pub mod Runs
pub mod Cases

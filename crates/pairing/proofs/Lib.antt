pub mod Verdicts
pub mod Noting
pub mod Keeping

pub mod Rule
pub mod Tolerance

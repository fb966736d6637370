pub mod Rounding
pub mod Becomes
pub mod Tests

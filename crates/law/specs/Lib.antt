pub mod Check
pub mod Law
pub mod Lawful

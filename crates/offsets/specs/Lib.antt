pub mod Offsets
pub mod Adding

pub mod Packed
pub mod Kinds
pub mod Records

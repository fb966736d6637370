pub mod Filling
pub mod Inputs
pub mod Texts

pub mod Largest
pub mod Becoming
pub mod Related
pub mod Twice
pub mod Passes
pub mod Cases

pub mod Chains
pub mod Statements
pub mod NewPair
pub mod Converted
pub mod Rounded
pub mod Codes

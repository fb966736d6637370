pub mod Words
pub mod Numbers
pub mod Decimals
pub mod Whole
pub mod Numerals
pub mod Texts
pub mod Places
pub mod Prints

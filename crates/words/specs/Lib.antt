pub mod Characters
pub mod Words
pub mod Numerals
pub mod Numbers
pub mod Decimals
pub mod Whole
pub mod Places

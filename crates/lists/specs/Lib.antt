pub mod Lists
pub mod Facts
pub mod Tests
pub mod Accepted

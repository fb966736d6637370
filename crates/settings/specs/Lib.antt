pub mod Runs
pub mod Encodings
pub mod Form
pub mod Slots
pub mod Units
pub mod Tests

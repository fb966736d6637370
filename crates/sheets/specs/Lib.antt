pub mod Texts
pub mod Form
pub mod Lines
pub mod Readings
pub mod Tests
pub mod Reader
pub mod Answers

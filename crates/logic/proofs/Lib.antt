pub mod Tests
pub mod Members
pub mod Sums
pub mod Progressions
pub mod Appends
pub mod Rooms
pub mod Parts
pub mod Indices

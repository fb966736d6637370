pub mod Turns
pub mod Entries
pub mod Cells
pub mod Steps
pub mod Taken
pub mod Walked
pub mod Clean

pub mod Rooms
pub mod Lines
pub mod Printing
pub mod Cases

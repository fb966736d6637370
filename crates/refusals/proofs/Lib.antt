pub mod Lowest
pub mod Walks
pub mod Chains
pub mod Rooms
pub mod Exactly
pub mod Entries
pub mod Below

pub mod Places
pub mod Records

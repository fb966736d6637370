pub mod Powers
pub mod Looking
pub mod Writing
pub mod Answering

pub mod Flows
pub mod Asking

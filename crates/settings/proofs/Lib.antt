pub mod Runs
pub mod Form
pub mod Stepped
pub mod Units
pub mod Numbers
pub mod Passes
pub mod Cases

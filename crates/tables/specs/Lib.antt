pub mod Tables
pub mod Form
pub mod Parts

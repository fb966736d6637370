pub mod Cells
pub mod State
pub mod Intervals
pub mod Order
pub mod Finished
pub mod Rows
pub mod Links
pub mod Plan

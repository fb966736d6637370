pub mod Rising
pub mod Windows
pub mod Contents
pub mod Cases

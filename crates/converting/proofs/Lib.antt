pub mod Values
pub mod Standing
pub mod Hearing
pub mod Sounding
pub mod Copying
pub mod Looking
pub mod Packing

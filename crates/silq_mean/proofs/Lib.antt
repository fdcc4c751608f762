pub mod Readings
pub mod Spelled
pub mod Samples

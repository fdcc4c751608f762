pub mod Range
pub mod Euclid
pub mod Known
pub mod Lowest
pub mod Told
mod Rows

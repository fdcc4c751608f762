pub mod Rows
pub mod Texts
pub mod Longests
pub mod Steps
pub mod Passing
pub mod Reading
pub mod Located
pub mod Slices

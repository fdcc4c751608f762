mod Added
pub mod Told

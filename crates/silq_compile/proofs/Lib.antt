pub mod Entries
pub mod Circuits

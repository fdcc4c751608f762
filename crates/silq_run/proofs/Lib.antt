pub mod Combined
pub mod Digits
pub mod Listing
pub mod Places
pub mod Room
pub mod Sequences
pub mod Turned
pub mod Turns

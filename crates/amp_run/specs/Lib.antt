pub mod Column
pub mod Parts
pub mod Room
pub mod Refusal
pub mod Inputs

pub mod Composing
mod Parting
pub mod Sequences

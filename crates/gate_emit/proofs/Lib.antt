pub mod Halves
pub mod SmallMoves
pub mod Acts
pub mod Plans
pub mod Circuits

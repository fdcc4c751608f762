pub mod Place
pub mod PlacedMoves
pub mod Spread
pub mod Laws
pub mod Free
pub mod State
pub mod Example

pub mod Registers
pub mod PlacedMoves
pub mod PlanCircuit
pub mod Laws
pub mod Example

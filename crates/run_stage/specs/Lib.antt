pub mod Choices
pub mod Laws
pub mod Stages
pub mod Stops

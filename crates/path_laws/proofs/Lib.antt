mod PathTerms
mod Sampling
pub mod ParameterLists
pub mod PathJoints

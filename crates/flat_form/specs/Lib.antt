pub mod State
pub mod Flat
pub mod Names
pub mod Good
pub mod Fine
pub mod Shows
pub mod Jobs

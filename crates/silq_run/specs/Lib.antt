pub mod Counted
pub mod Laws
pub mod Ordered
pub mod Ran
pub mod Reach
pub mod Shown
pub mod Steps

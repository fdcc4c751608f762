pub mod Changes
pub mod Entering
pub mod Held
pub mod Joins
pub mod Reach
pub mod Ready
pub mod Sizes

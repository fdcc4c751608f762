pub mod Statement
pub mod Program
pub mod Counting
pub mod Entry
pub mod Stepping
pub mod Branches
pub mod Leaving

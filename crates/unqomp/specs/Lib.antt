pub mod GraphOf
pub mod UseList
pub mod Example
pub mod Making
pub mod Linking
pub mod UsesAdded

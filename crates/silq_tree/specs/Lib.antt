pub mod Syntax
pub mod Standing
pub mod Children
pub mod Arena
pub mod Texts

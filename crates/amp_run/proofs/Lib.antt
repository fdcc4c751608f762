pub mod Halving
pub mod Joining
pub mod Begin
pub mod Few
pub mod Rows
pub mod Taking

mod Plans
pub mod Theorem

pub mod Growing
pub mod Signs
pub mod Firsts
pub mod Reading
pub mod Passed
pub mod Exits
pub mod Atoms
pub mod Named

pub mod Static
pub mod Angle
pub mod Laws

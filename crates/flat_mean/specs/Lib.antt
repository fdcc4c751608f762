pub mod Row
pub mod Path
pub mod Terms
pub mod Laws
pub mod Factor

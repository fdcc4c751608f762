pub mod Progress
pub mod Valid
pub mod Effect
pub mod Live
pub mod Laws
pub mod Track
pub mod AsMoves

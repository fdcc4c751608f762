pub mod Value
pub mod Env
pub mod Term
pub mod Effect
pub mod Meaning
pub mod Table
pub mod Laws
pub mod Written

pub mod Growth
pub mod Agreeing
pub mod Arenas
pub mod Interned
pub mod Lists
pub mod Rows

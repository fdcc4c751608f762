pub mod Blocks
pub mod Calling
pub mod Carrying
pub mod Entries
pub mod Owning
pub mod Walking
pub mod Statements

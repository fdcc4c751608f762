pub mod Spelling
pub mod Lexed
pub mod Endings
pub mod Faults
pub mod Parts
pub mod AddedStatement
pub mod Functions
pub mod Stands

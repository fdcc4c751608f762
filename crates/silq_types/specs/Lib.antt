pub mod Rules
pub mod Types
pub mod Known
pub mod Calls
pub mod Words
pub mod Programs

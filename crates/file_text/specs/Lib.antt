pub mod NoText
pub mod Reading

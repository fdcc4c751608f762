pub mod Sources
pub mod Headline

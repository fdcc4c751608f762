pub mod Form
pub mod Label
pub mod Ends
pub mod Sound
pub mod Drafts
pub mod Rows
pub mod Laws

pub mod Left
pub mod ReadyOrder
pub mod Waiting
pub mod OrderOf
pub mod Flags
pub mod GivenCycle
pub mod Laws
pub mod ReadyTree

mod Bounded
mod Ended
mod Entered
mod Given
pub mod Stopped

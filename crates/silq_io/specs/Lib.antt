pub mod Counts
pub mod Sinks
pub mod Reads
pub mod Names
pub mod Memory
pub mod Disk
pub mod Sure

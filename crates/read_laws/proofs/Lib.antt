mod Rows
mod Decimals
mod Differ
mod Parts
mod Lines
mod Registers
mod GateParts
mod Operands
mod Statements
mod Walk
mod Comments
mod Lists
mod Heads
pub mod ReadBack

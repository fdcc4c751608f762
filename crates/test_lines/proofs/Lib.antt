mod Counts
mod Rows

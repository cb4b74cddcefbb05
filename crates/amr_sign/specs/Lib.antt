pub mod Counts
pub mod Rows
pub mod Stretches
pub mod Scan
pub mod Words

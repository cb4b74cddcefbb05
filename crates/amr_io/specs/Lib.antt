pub mod Buffered
pub mod Short
pub mod Memory
pub mod Counts

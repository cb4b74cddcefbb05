pub mod Given
pub mod Shares
pub mod Sums

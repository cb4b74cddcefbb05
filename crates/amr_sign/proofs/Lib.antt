pub mod Places
pub mod Counts
pub mod RowSets
pub mod Bits
pub mod Parts
pub mod StretchCounts

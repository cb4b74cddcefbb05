pub mod Readings
pub mod Making
pub mod Stepping
pub mod Going
pub mod Progress
pub mod Stopping
pub mod KeptStates
pub mod KeptRuns
pub mod Written
pub mod FromDisk
pub mod Puts
pub mod Causes
pub mod Folded
pub mod Later
mod Rows
mod Exchanging

mod Unmasked
mod Borders
mod Entries
mod Exchanged
mod Given
mod Owned
pub mod Paces
mod Parts
pub mod PatchSteps
pub mod RowOrder
pub mod RowSteps
mod Steps
pub mod Swept
mod Throughs
mod Updates
mod Words

mod Owners
pub mod Loads
mod Balance
mod SoFar

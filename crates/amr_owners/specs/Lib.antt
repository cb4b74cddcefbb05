pub mod Laws
pub mod Owners

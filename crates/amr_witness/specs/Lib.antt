pub mod Ends
pub mod Maps
pub mod Parts
pub mod Ready

pub mod Places
pub mod Patches
pub mod Orders
pub mod Pairwise
pub mod Levels
pub mod Meshes
pub mod BoxRows
pub mod Gaps

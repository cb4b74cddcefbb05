pub mod Items
pub mod Letters
pub mod Nodes
pub mod Stored
pub mod Nets
pub mod Laws

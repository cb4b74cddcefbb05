pub mod Orders
pub mod TeamOf
pub mod Helpers
pub mod Shares
pub mod Asked

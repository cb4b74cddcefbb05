mod Appending
mod Domains
pub mod KeptRows

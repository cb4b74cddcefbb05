pub mod Causes
pub mod Bytes

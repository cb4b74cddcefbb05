pub mod Beside
pub mod Told
pub mod Filled
pub mod Sources
pub mod Between
pub mod Shared

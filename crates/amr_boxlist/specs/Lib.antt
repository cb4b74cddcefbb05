pub mod Lists
pub mod Chopped
pub mod Remnants
pub mod Shared

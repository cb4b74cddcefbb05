pub mod Stages
pub mod Steps
pub mod Called
pub mod Lists

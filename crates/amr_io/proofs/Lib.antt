pub mod Behind
pub mod Counting
pub mod Reading
pub mod Sending
pub mod Shorter

pub mod Places
pub mod Logs
pub mod Replays

pub mod Views
pub mod MailboxOf
pub mod Plays
pub mod Rule
pub mod Found

pub mod Answer
pub mod Batch
pub mod Laws
pub mod Replies

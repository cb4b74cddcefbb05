pub mod Payload
pub mod Tests
pub mod Delta
pub mod Laws

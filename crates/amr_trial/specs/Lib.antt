pub mod Generator
pub mod Trial
pub mod Parts
pub mod Document
pub mod Laws
pub mod Summary
pub mod Digests

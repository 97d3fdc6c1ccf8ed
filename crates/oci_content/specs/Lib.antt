pub mod Content
pub mod Embedded
pub mod Hashing

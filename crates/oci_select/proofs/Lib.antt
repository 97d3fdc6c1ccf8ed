pub mod Tables
pub mod Members
pub mod Slashes
pub mod Places

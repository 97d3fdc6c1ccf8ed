pub mod Denoted
pub mod Listed
pub mod Opened

pub mod Decided
pub mod Described
pub mod Encodings
pub mod Errors
pub mod Hashed
pub mod Names
pub mod Rules
pub mod Tails

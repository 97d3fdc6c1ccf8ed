pub mod Agree
pub mod Copies
pub mod Described
pub mod Descriptors
pub mod Firsts
pub mod Images
pub mod Listed
pub mod Types

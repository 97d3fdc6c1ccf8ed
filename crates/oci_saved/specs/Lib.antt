pub mod Entries
pub mod Facts
pub mod Files
pub mod Links
pub mod Rules
pub mod Saved

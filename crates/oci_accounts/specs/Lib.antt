pub mod Files
pub mod Ids
pub mod Lines

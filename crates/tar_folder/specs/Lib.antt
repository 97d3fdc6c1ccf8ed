pub mod Bounds
pub mod Compressions
pub mod Errors
pub mod Folders
pub mod Marks
pub mod Parts
pub mod Paths
pub mod Plain

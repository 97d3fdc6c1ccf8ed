pub mod Gzip
pub mod Errors
pub mod Reading
pub mod Sums

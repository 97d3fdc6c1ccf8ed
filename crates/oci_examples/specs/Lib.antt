pub mod Paths
pub mod PinnedLines
pub mod Platforms
pub mod Policy

pub mod Configured
pub mod Contents
pub mod Found
pub mod Named
pub mod Platforms
pub mod Shown

pub mod Adds
pub mod Alike
pub mod Along
pub mod Configs
pub mod Found
pub mod Images
pub mod Layers
pub mod Strings

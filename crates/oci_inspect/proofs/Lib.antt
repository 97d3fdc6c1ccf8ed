pub mod Appended
pub mod Choices
pub mod Configs
pub mod Leading
pub mod Objects
pub mod Running
pub mod Showing
pub mod Told

pub mod Both
pub mod Documents
pub mod Expressions
pub mod Lists
pub mod Slashes

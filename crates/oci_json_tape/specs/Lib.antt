pub mod Elements
pub mod Fits
pub mod Numbers
pub mod Sinks
pub mod Tokens
pub mod Values
pub mod Walked

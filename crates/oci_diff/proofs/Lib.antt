pub mod Adds
pub mod Aligning
pub mod Bests
pub mod Telling
pub mod Ways

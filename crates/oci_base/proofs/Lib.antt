pub mod Lacks
mod Lines
pub mod Marks
pub mod Runs
mod Steps

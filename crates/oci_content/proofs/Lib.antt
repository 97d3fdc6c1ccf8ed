pub mod Named
pub mod Verdicts

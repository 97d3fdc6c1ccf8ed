pub mod Chosen
pub mod Fits
pub mod Normal
pub mod Runs
pub mod Texts
pub mod Told

pub mod Checksums
pub mod Cuts
pub mod Fronts
pub mod Keeping
pub mod Paths
pub mod Readings
pub mod Told
pub mod Whiteouts

pub mod Archives
pub mod Asked
pub mod Images
pub mod Kept
pub mod Layers
pub mod Layouts
pub mod Passing
pub use Rattle.oci_layout.specs.Sound

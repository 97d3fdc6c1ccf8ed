pub mod Commands
pub use Rattle.oci_schemas.specs.Kinds
pub mod Outputs
pub mod Refusals

pub mod Buffers
pub mod Fields
pub mod Kinds
pub mod References
pub mod Rules

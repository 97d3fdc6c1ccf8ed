pub mod Capabilities
pub mod Classes
pub mod CpuList
pub mod Digest
pub mod Escaped
pub mod Names
pub mod Refused

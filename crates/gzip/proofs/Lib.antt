pub mod ByteByByte
pub mod Heads
pub mod Streams
pub mod Behind
pub mod Members
pub mod Examples

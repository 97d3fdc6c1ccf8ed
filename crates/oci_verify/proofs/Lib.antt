pub mod Agreeing
pub mod Archives
pub mod Bytes
pub mod Layouts
pub mod Passing
pub mod Reaching
pub mod Rereading
pub mod Unpacking

pub mod Bounded
pub mod Elements
pub mod Failed
pub mod Found
pub mod Marked
pub mod Natural
pub mod Parted
pub mod Plainly

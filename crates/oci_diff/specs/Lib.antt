pub mod Aligned
pub mod Best
pub mod Differs
pub mod Same
pub mod Tells

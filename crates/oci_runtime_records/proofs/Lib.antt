pub mod Canonicals
pub mod Options

pub mod Layouts
pub mod Listings
pub mod Sources

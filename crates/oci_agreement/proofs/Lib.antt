pub mod FirstMaps
pub mod Firsts
pub mod Laws
pub mod Owners
pub mod Steps

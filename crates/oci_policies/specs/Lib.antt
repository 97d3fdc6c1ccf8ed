pub mod Conditions
pub mod Grammars
pub mod Places
pub mod Policies
pub mod Steps
pub mod Tests
pub mod Values

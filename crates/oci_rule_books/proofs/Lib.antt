pub mod Chains
pub mod NullsInBooks
pub mod NullsInShapes
pub mod Places

pub mod OneMoreNode
pub mod Meaning
pub mod NewNodes
pub mod Functions
pub mod CacheWords

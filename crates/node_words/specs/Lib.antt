pub mod Nodes
pub mod Meaning
pub mod Entries

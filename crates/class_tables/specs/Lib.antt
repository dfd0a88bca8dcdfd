pub mod Chains
pub mod Scratch

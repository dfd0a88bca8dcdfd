pub mod Spelling
pub mod Faults
pub mod Decoded
pub mod Values
pub mod Parsing
pub mod Reading
pub mod Heads

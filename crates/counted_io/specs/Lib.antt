pub mod Counted
pub mod Counts
pub mod Reading
pub mod Writing

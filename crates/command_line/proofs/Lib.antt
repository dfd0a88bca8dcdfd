pub mod Added
pub mod Matches

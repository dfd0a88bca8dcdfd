pub mod StartingDiagrams
pub mod Bests
pub mod Found
pub mod Planned

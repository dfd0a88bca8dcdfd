pub mod Leveled
pub mod Managed
pub mod LevelLists
pub mod Moves
pub mod Cuts
pub mod NodeTables

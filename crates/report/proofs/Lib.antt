pub mod LevelCounts
pub mod RunEndings

-- Diagrams: values along paths, what each level has at least, and a diagram that has just that.
pub mod Appended
pub mod Paths
pub mod PathSteps
pub mod Counts
pub mod Construction
pub mod LevelBound
pub mod Reduced

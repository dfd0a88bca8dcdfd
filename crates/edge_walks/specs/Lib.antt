pub mod Blocks
pub mod Edges
pub mod FewerEdges
pub mod Marks
pub mod Rows
pub mod Tables
pub mod LowerClasses
pub mod Walks

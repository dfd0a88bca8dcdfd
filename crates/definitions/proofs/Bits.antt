-- Bits of masks, of points' numbers and of packed words.
pub mod Masks
pub mod Points
pub mod PointNumbers
pub mod Words
pub mod Tables
pub mod Problems
pub mod Ones
pub mod LowerBounds

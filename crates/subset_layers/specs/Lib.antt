pub mod Layers
pub mod Selections
pub mod Costs
pub mod Sums

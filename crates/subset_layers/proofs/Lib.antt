pub mod ChosenNumbers
pub mod BlockLists
pub mod CostLists
pub mod BestSums
pub mod CellSteps
pub mod Rows

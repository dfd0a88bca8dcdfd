pub mod Paths
pub mod BranchingNodes
pub mod Counts
pub mod SwappedLevels
pub mod Insertions
pub mod NodeSlots
pub mod LevelNodes
pub mod OrderSwaps
pub mod ManagerFields
pub mod Placements
pub mod MoveSteps
pub mod BestPlace
pub mod FallingCounts
pub mod SiftedOrder
pub mod SplitCuts
pub mod BuiltLevels
pub mod RootNumbers
mod DiagramTables

pub mod CellSteps
pub mod InBlocks
pub mod EntryPlaces
pub mod Names
pub mod SlotSteps

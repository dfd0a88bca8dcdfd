pub mod Blocks
pub mod Posts
pub mod ClaimedSets
pub mod Rounds

pub mod WithinBound
pub mod Layers
pub mod FlatLists
pub mod ReadOrders
pub mod ReadCells
pub mod ListedSets
pub mod WidthCounts
pub mod FoundOrders

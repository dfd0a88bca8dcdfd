-- Widths, least costs and cells.
pub mod ClassPairs
pub mod Recurrence
pub mod AllOrders
pub mod OrderSizes
pub mod SizeCounts
pub mod Essential
pub mod Fewest
pub mod SizeBounds
pub mod LastLevels
pub mod Parts
pub mod Count
pub mod Cells
pub mod Clipped
pub mod Outside
pub mod Splits
pub mod LowerBounds

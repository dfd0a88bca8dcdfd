pub mod SiftedBounds
pub mod Harmless
pub mod LayerLists

pub mod SearchStarts
pub mod CellFinders

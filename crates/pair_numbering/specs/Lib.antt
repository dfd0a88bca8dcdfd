pub mod Cells
pub mod Keys
pub mod Numbers
pub mod Slots
pub mod Strips
pub mod LowerClasses
pub mod MaskedNumbers

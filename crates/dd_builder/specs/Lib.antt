pub mod Building
pub mod Making
pub mod Parts
pub mod Operating
pub mod Paths
pub mod Literals
pub mod Subfunctions

pub mod Dependence
pub mod Made
pub mod Numbering
pub mod PairTables
pub mod Places
pub mod Table
pub mod Values
pub mod Strips

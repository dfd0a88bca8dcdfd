pub mod Exchanges
pub mod Images
pub mod Orbits
pub mod Renamings
pub mod SymmetricPairs

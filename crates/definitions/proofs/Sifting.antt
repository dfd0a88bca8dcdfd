-- Sifting: the best place of a variable, and in which order variables are sifted.
pub mod Placements
pub mod BestPlaces
pub mod Falling

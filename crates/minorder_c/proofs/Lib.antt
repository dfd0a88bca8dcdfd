mod Counts
mod DrawnParts
mod ListedWidths
mod NamePlaces
mod Optima
mod Parts
mod Places
mod Refusals
mod Roots
mod Statuses
pub mod Certificates

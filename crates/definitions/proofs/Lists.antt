-- Lists: as sets, runs of numbers and filters, lists of variables that are orders, two neighbours exchanged, and which order comes first.
pub mod Sets
pub mod Ranges
pub mod Maps
pub mod Sums
pub mod Digits
pub mod Orders
pub mod Accepted
pub mod Swaps
pub mod Firsts

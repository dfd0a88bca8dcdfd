pub mod Views
pub mod Invariant
pub mod Closing
pub mod Refusals
pub mod Held
pub mod Closed

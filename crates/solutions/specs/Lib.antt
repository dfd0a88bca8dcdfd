pub mod Bounded
pub mod Solutions

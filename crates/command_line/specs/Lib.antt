pub mod Lines
pub mod Usages

pub mod Lists
pub mod Bits
pub mod Functions
pub mod Nodes
pub mod Precedence
pub mod Widths
pub mod Certificates
pub mod Sifting

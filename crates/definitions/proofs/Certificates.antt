-- Certificates: the one that is written, and what a good one bounds.
pub mod Written
pub mod Listed
pub mod Potential
pub mod Same

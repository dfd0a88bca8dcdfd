-- Functions, their truth tables and their restrictions.
pub mod Tables
pub mod Exchange
pub mod Same

-- Worked values, which show that the premises of the laws can be met.
pub mod Counts
pub mod Diagram
pub mod Pairs
pub mod Reasons
pub mod Certificate

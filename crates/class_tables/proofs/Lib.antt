pub mod CountedFirsts
pub mod MoreClasses
pub mod PairChains

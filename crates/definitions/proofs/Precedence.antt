-- Pairs: which sets are lawful, which orders keep them, how masks and texts hold them.
pub mod Lists
pub mod Sets
pub mod Masks
pub mod MaskLaws
pub mod Greedy
pub mod Texts
pub mod Closure
pub mod Cycles
pub mod NoPairs

mod WorkedFiles
pub mod CoverOrFault
pub mod TextLemmas
pub mod NameLemmas
pub mod TermLemmas
pub mod RowLemmas
pub mod LineLemmas
pub mod ReadLemmas
pub mod WellFormed
pub mod PlaceLemmas

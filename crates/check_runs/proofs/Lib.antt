pub mod CoverVerdicts
pub mod OneVerdict
pub mod CheckEndings

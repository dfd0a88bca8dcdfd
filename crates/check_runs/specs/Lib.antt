pub mod VerdictTexts
pub mod Judging

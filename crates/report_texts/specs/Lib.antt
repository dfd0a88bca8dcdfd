pub mod Texts
pub mod OrderTexts
pub mod Answers
pub mod Runs

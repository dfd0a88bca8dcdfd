pub mod LayerContexts
pub mod Gains

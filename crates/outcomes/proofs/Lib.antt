pub mod Known
pub mod FailedCalls

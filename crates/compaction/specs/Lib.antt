pub mod HighBytes
pub mod Requests
pub mod Rows
pub mod Strips
pub mod Walks
pub mod Preparations
pub mod ValueStrips
pub mod NamedStrips

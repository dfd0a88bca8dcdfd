pub mod Statuses
pub mod Plans
pub mod Limits
pub mod Texts
pub mod Messages
pub mod Programs
pub mod Headline

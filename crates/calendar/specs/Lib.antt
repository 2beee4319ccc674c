pub mod Revisions
pub mod Absolute
pub mod Ranges
pub mod Fields
pub mod Seconds
pub mod Steps
pub mod TwoRevisions

pub mod Layout
pub mod Registry
pub mod Steps

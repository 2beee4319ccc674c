pub mod Row
pub mod Search
pub mod Years
pub mod Stretches
pub mod Steps

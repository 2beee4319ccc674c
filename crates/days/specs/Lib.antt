pub mod Years
pub mod Months
pub mod Dates
pub mod Ticks
pub mod Counting
pub mod Steps
pub mod BlockCounts

pub mod DateOf
pub mod NextDay
pub mod Weekdays

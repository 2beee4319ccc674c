pub mod LocalTime
pub mod Answers
pub mod Steps

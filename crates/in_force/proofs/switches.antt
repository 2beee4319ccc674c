pub mod DayLaws
pub mod Occurrences

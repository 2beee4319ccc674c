pub mod ValidDates
pub mod CheckedRules

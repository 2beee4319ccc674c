pub mod Time
pub mod ZoneRecords
pub mod Definitions
pub mod Conversions
pub mod Tallies

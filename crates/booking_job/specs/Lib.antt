pub mod Bytes
pub mod ZoneText
pub mod Booked
pub mod Tallies
pub mod Whole

pub mod Tallies
pub mod Booking
pub mod Saved
pub mod Answers
pub mod Steps

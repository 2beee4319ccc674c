pub mod Bookings
pub mod History

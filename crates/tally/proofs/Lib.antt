pub mod WalkLaws
pub mod BookingLaws
pub mod Numbers
pub mod Number19

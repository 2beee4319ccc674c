pub mod TimeOfDay
pub mod Formed
pub mod RoundTrip

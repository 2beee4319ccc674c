-- The definitions that contracts and theorems cite.
pub mod Bytes
pub mod TwosComplement
pub mod Fields
pub mod Stored
pub mod RoundTrips

-- The definitions that contracts and theorems cite.
pub mod Faults
pub mod Lines

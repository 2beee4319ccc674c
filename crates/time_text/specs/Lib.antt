-- The definitions that contracts and theorems cite.
pub mod Decimal
pub mod Number
pub mod Revision
pub mod Clock
pub mod Times
pub mod Steps

-- The definitions that contracts and theorems cite.
pub mod Hours
pub mod Names
pub mod Table
pub mod Csv

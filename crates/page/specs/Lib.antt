-- The definitions that contracts and theorems cite.
pub mod Characters
pub mod Pages
pub mod Numbers
pub mod Times

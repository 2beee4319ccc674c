pub mod Finite
pub mod Counting

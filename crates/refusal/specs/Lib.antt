pub mod Number
pub mod Outcome
pub mod Results
pub mod Lent

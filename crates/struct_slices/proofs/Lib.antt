pub mod Cond
pub mod LastPlace
pub mod Folds
pub mod Stored
pub mod Turns

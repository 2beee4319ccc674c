pub mod Places
pub mod Guarded
pub mod Iterated
pub mod Loaded
pub mod Written

pub mod Cycles
pub mod Places

pub mod Joined
pub mod Known
pub mod Calls

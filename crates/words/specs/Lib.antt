pub mod Names
pub mod Refusals
pub mod Signed
pub mod Rules
pub mod Units

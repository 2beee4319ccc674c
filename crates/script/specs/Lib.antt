pub mod Scripts
pub mod Steps
pub mod WorkedScript

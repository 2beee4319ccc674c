pub mod Definition
pub mod Answers
pub mod Steps
pub mod Places
pub mod Normal

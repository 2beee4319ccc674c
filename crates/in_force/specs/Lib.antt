pub mod Biases
pub mod Switches
pub mod RuleBias
pub mod Stretches
pub mod Shown
pub mod Steps

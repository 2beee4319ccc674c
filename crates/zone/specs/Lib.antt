pub mod Dates
pub mod Biases
pub mod Rules
pub mod Ticks
pub mod Sound

pub mod Lengths
mod Closed

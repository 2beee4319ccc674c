pub mod Paths
pub mod Reads

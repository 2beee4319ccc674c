pub mod Closed
pub mod YearOf
pub mod Blocks
pub mod BlockCountsHold

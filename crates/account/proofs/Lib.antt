pub mod Noting
pub mod Numbers
pub mod Number19
pub mod Demand3Holds
pub mod WorkedListHolds

pub mod Calls
pub mod Pencil
pub mod Demand3
pub mod WorkedList

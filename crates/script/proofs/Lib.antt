pub mod ByteNumbers
pub mod BufferLaws
pub mod Turns
pub mod Listing
pub mod Accounts
pub mod Numbers
pub mod Number19
pub mod WorkedScriptHolds

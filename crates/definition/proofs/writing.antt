pub mod Stored
pub mod Accepted
pub mod Lengths
pub mod RoundTrip
pub mod WrittenRead
pub mod OnlyNormal

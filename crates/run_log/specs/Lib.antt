pub mod Log
pub mod Feed

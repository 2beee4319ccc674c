pub mod LineLaws
pub mod FeedLaws
pub mod PartLaws

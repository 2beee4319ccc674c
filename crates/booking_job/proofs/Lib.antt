pub mod BytesLaws
pub mod BookedLaws
pub mod OneEquation
pub mod ZoneLaws

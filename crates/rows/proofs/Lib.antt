pub mod CheckLaws
pub mod PlaceLaws
pub mod SearchLaws
pub mod StepLaws
pub mod StretchLaws
pub mod YearLaws

pub mod LocalLaws
pub mod UtcLaws
pub mod ListLaws
pub mod Numbers
pub mod Number19
pub mod StepLaws

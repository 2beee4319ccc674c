pub mod Sheet
pub mod OwnExamples
pub mod OwnShown
pub mod OwnRuns

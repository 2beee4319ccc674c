pub mod RunLaws
pub mod SheetHolds
pub mod OwnExamplesHold
pub mod OwnShownHolds
pub mod OwnRunsHold

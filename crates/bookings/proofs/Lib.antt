pub mod LogAccount
pub mod LogRuns
pub mod ToolHistory

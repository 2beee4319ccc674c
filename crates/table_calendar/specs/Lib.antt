pub mod Table
pub mod SameAnswers
pub mod Steps

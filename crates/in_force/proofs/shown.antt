pub mod YearLaws
pub mod WindowLaws
pub mod AnswerLaws
pub mod CandidateLaws

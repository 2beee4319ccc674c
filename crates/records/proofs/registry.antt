pub mod AnswerLaws
pub mod RoundTrip
pub mod Examples

pub mod SavedLaws
pub mod RoundTrip

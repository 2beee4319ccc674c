-- Laws of the definitions, a file for each file of specs/. Later crates cite them too.
pub mod ByteLaws
pub mod TwosComplementLaws
pub mod FieldLaws
pub mod StoredLaws

-- Laws of the definitions, a file for each file of specs/. Later crates cite them too.
pub mod PageLaws
pub mod NumberLaws
pub mod DecimalLaws
pub mod LengthLaws
pub mod Examples

pub mod TwoRevisionsHold

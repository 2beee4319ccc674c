pub mod SameAnswersHold

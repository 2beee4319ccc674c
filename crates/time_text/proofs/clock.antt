pub mod Form
pub mod Numbers
pub mod Meaning

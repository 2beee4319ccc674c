pub mod TableLaws
pub mod CountLaws
pub mod GrownLaws
pub mod CycleLaws

pub mod NameLaws
pub mod SignedLaws
pub mod UnitLaws
pub mod Examples
pub mod RuleLaws

mod Examples
pub mod NameLaws
pub mod TableLaws

pub mod LineLaws
pub mod SessionLaws

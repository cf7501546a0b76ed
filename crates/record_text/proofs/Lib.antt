mod RecordLaws
mod LineLaws
pub mod Claims
mod Examples

pub mod BoundedLaws
mod CopyLaws
pub mod DecimalLaws
mod Examples
mod HigherLaws
pub mod PutLaws
pub mod RowLaws
pub mod SameLaws
pub mod WroteLaws

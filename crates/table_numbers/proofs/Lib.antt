pub mod NumberLaws
pub mod ListLaws
pub mod FillLaws
pub mod TableLaws
pub mod Claims

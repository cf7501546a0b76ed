mod Examples
pub mod WordLaws
pub mod NumberLaws
pub mod ScanLaws
mod FillLaws
pub mod LineLaws
pub mod FrontLaws

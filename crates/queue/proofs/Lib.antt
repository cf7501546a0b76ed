pub mod AcceptedLaws
pub mod LineLaws
pub mod CoreLaws
pub mod TestedLaws

pub mod Cells
pub mod Text
pub mod Answers
pub mod Inner

pub mod Dot
pub mod Answers
pub mod Inner

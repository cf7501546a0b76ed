pub mod Pipeline
pub mod Vector
pub mod Meaning
pub mod Answers
pub mod Inner

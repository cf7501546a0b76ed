pub mod Diagram
pub mod States
pub mod Cycles
pub mod Work
pub mod Answers
pub mod Inner

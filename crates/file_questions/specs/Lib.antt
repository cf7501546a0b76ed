pub mod Questions
pub mod Inner

pub mod Issue
pub mod Inner

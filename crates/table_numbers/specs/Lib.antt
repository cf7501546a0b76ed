pub mod Tables
pub mod Claims
pub mod Inner

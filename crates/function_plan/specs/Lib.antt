pub mod Own
pub mod Claims

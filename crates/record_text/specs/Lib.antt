pub mod Plans
pub mod Lines
pub mod Claims

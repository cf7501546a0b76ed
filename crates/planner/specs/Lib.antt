pub mod Plans
pub mod Sheet
pub mod Inner

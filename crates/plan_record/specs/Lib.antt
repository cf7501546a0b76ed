pub mod Record
pub mod Read
pub mod Write
pub mod Claims
pub mod Inner

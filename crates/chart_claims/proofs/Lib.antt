pub mod Claims
mod Examples

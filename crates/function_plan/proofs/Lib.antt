mod OwnLaws
pub mod Claims
mod Examples

mod ShownLaws
pub mod Claims
pub mod Examples

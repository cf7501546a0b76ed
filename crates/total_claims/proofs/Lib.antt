pub mod UniqueLaws
pub mod AnswerLaws
pub mod SizeLaws
mod Examples

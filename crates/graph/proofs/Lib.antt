pub mod AnswerLaws
pub mod BoldLaws
mod DotLaws
mod Examples

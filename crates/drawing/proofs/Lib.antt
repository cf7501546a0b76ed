pub mod AnswerLaws
mod TableLaws
mod Examples

pub mod FractionLaws
mod TallyLaws
pub mod MeasureLaws
mod AnswerLaws

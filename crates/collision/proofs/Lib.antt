pub mod RowLaws
pub mod CommonLaws
pub mod AnswerLaws
pub mod VectorLaws
pub mod Examples
pub mod ClashLaws
pub mod StartLaws
pub mod MatrixLaws

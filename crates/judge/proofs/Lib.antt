pub mod CycleLaws
pub mod IntervalLaws
pub mod VerdictLaws
pub mod JudgeLaws

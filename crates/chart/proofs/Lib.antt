mod FillLaws
mod DigitLaws
pub mod CellLaws
pub mod LineLaws
mod SegmentLaws
pub mod ChartLaws

pub mod SetLaws
pub mod LargestLaws
pub mod LowerLaws
pub mod SegmentLaws
pub mod RowLaws

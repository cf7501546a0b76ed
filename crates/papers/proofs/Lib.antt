pub mod TestLaws
pub mod TableLaws
pub mod PotentialLaws
pub mod CycleLaws
pub mod DiagramLaws
pub mod EveryRow

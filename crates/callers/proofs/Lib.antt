pub mod EachLaws
pub mod RoundLaws
pub mod PartLaws
pub mod TestedLaws
pub mod TryLaws
pub mod SameLaws
pub mod ValueLaws

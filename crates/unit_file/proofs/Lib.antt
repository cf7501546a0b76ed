mod PlaceLaws
mod ReadLaws
mod ColumnLaws
mod FillLaws
pub mod FrontLaws
pub mod WriteLaws
pub mod ByteLaws
pub mod FileLaws
pub mod AcceptedLaws
pub mod AskedLaws
pub mod LongLaws
pub mod RoundTrips

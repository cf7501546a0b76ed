pub mod File
pub mod Read
pub mod Write
pub mod RoundTrips
pub mod InnerRead
pub mod InnerWrite

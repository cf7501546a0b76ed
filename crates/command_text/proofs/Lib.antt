mod Examples
pub mod RoundTrip
pub mod WriteLaws

pub mod Walks
pub mod Rotations
pub mod ListLaws
pub mod Listing
pub mod Pigeon
pub mod Many
pub mod Rivals

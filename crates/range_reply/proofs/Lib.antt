pub mod RangesLaws
pub mod RangesOnce
pub mod Replaced
pub mod InPlace
pub mod Planned
pub mod Settled

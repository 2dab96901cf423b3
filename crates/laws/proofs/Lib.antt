pub mod Cases
pub mod SumLaws
pub mod Digits
pub mod TabulateLaws
pub mod SetsLaws

pub mod GivenLaws
pub mod Converted
pub mod Settled

pub mod RegisterLaws
pub mod Settled

pub mod Answering
pub mod ClaimLaws
pub mod Settled

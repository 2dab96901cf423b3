pub mod ClaimReply
pub mod Asked
pub mod Settled

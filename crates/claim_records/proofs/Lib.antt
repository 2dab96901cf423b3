pub mod ClaimTableLaws
pub mod BodyLaws
pub mod ListKinds
pub mod ClaimBytes
pub mod Taken

pub mod Named
pub mod Decided

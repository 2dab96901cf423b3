pub mod Told
pub mod Started

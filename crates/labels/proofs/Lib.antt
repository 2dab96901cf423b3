pub mod Strings
pub mod Hashes

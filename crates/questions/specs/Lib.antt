pub mod Witnessed
pub mod Groups
pub mod Judged
pub mod Places
pub mod Ways
pub mod Counts

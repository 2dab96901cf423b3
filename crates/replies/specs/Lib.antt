pub mod Reply
pub mod Returned
pub mod Wrote
pub mod Written
pub mod Verdict
pub mod Shown
pub mod Alike

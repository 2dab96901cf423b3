pub mod NoSheet
pub mod Loaded

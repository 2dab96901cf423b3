pub mod Tables
pub mod Links
pub mod Pairs
pub mod Done
pub mod Fitting

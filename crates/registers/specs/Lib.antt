pub mod Tallies
pub mod Checked

pub mod Parted
pub mod Parts
pub mod Divided
pub mod Chosen

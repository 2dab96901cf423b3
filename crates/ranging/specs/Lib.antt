pub mod Pull
pub mod Table
pub mod Sized

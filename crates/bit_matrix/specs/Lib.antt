pub mod Matrix
pub mod Exchange

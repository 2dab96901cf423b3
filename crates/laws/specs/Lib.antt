pub mod Sum
pub mod Digit
pub mod Lowest
pub mod Tabulate

pub mod Asked
pub mod Joins
pub mod Meant
pub mod RuleTests

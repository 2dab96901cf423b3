pub mod Fields
pub mod Carried
pub mod ClaimAnswers
pub mod NameAnswers

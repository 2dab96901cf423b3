pub mod ToldLaws
pub mod StartedLaws

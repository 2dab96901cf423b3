pub mod NamedLaws
pub mod DecidedLaws
pub mod ShownAlike
pub mod SetsLaws

pub mod PartedLaws
pub mod PartsLaws
pub mod DividedLaws
pub mod ChosenLaws

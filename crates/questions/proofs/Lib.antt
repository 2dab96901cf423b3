pub mod WitnessedLaws
pub mod GroupsLaws
pub mod FlagsLaws
pub mod JudgedLaws
pub mod PlacesLaws
pub mod WaysLaws
pub mod CountsLaws

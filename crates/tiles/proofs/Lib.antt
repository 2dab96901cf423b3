pub mod BitLaws
pub mod TileLaws
pub mod FillLaws

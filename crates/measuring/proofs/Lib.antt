pub mod TablesLaws
pub mod LinksLaws
pub mod PairsLaws
pub mod DoneLaws
pub mod FittingLaws

pub mod TowardsLaws
pub mod RowsLaws

pub mod RowBits
pub mod RowLaws

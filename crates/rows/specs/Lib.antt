pub mod RowsRead
pub mod Sides

pub mod ColumnLaws
pub mod PutLaws
pub mod CountLaws

pub mod GroupsLaws
pub mod SheetInLaws
pub mod RecordsInLaws
pub mod NumbersLaws

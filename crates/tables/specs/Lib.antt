pub mod Entry
pub mod Groups
pub mod Modes
pub mod SheetIn
pub mod Names
pub mod RecordsIn
pub mod Numbers

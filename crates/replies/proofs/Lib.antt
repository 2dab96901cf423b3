pub mod WroteLaws
pub mod WrittenLaws
pub mod ReplyLaws
pub mod Alike
pub mod Exits

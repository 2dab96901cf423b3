pub mod WordLaws
pub mod JoinLaws
pub mod RuleLaws
pub mod EntryLaws

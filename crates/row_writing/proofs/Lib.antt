pub mod WordsRowLaws

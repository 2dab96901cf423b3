pub mod WordsRow

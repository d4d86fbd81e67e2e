pub mod WordsTables
pub mod WordsWalk

pub mod Alive
pub mod Copies
pub mod Edits
pub mod Lows

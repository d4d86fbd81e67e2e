pub mod Kept
pub mod Cuts
pub mod Compacted
pub mod Putting
pub mod Keeping
pub mod Ended

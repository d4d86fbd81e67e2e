pub mod Told
pub mod Staged
pub mod Standing
pub mod Batch

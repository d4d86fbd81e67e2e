pub mod Over
pub mod Built
pub mod Building
pub mod Collected
pub mod Additions
pub mod Going
pub mod Growing

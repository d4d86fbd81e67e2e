pub mod Rows
pub mod Rebuilt
pub mod Given

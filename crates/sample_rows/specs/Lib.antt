pub mod Generator
pub mod Summary

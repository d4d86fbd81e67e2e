pub mod Calls
pub mod Faults
pub mod Looked
pub mod Places
pub mod Shown

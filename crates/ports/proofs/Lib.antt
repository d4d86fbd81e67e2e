mod Forgotten
pub mod Known

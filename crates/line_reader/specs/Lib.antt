pub mod Lines
pub mod Intake
pub mod Reader
pub mod Skip

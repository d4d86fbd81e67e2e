pub mod Points
pub mod Becoming
pub mod Growth
pub mod Adding
pub mod AddingDamage
pub mod Chain
pub mod Sums

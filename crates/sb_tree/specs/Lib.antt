pub mod Cut
pub mod Damage
pub mod Edits
pub mod Laws
pub mod Raised
pub mod Stands
pub mod Steps
pub mod Stored

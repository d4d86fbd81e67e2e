pub mod Command
pub mod Grammar
pub mod Reading
pub mod Words

pub mod Asked
pub mod Endings
pub mod Nothing
pub mod Opened
pub mod Reading
pub mod Sampling
pub mod Scratch
pub mod AnsweredEach
pub mod ReadsContent
pub mod AnswersFrom
pub mod ReadsWarehouse
mod Checked
mod Exported
mod Compacting
mod Spanning
mod Carrying

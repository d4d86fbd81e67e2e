pub mod AnsweredLine
pub mod Answering
pub mod DeskState
pub mod Ended
pub mod Housed
pub mod Outbox
pub mod Serving

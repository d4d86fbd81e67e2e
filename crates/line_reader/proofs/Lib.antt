pub mod BufferLemmas
pub mod CalmLemmas
pub mod LinesLemmas
pub mod ReaderLemmas
pub mod SearchLemmas
pub mod SkipLemmas

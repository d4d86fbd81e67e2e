pub mod Contents
mod PlainLines
mod QuotedParts
mod CsvReads
mod FeedLemmas
pub mod GivenValues
mod LineEnds

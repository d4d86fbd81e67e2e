pub mod Steps
pub mod Totals
pub mod Wrapped
pub mod Weights
pub mod States
pub mod Printed
pub mod LineFeeds
pub mod SmallTotals

pub mod LineLemmas
pub mod DigitLemmas
pub mod NumberLemmas
pub mod FeedLemmas

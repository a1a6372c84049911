pub mod Examples
pub mod PlaceLemmas
pub mod ReadingLemmas
pub mod SumLemmas
pub mod TickEndsLemmas
pub mod ValidityLemmas
pub mod WindowLemmas

pub mod GoingLemmas
pub mod HoldingLemmas
pub mod LineLemmas
pub mod NearLemmas
pub mod TallyLemmas
pub mod TextExamples

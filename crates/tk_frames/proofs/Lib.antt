mod Examples
pub mod AnswerLemmas
pub mod AscentLemmas
pub mod BytesLemmas
pub mod CarriedLemmas
pub mod EncodingLemmas
pub mod ExactLemmas
pub mod FieldLemmas
pub mod FrameLemmas
pub mod FrontLemmas
pub mod GroupLemmas
pub mod Loop
pub mod SizeLemmas
pub mod Steps
pub mod WritingLemmas
pub mod AssignsLemmas

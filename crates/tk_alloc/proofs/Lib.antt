pub mod Counts
pub mod MemberLemmas
pub mod AscentLemmas
pub mod PartLemmas
pub mod DealtLemmas
pub mod LeewayLemmas
pub mod PickLemmas
pub mod PickedLemmas
pub mod ReplacementLemmas
pub mod LimitLemmas
pub mod ShortTestLemmas
pub mod BorderLemmas
pub mod RoundLemmas
pub mod AskedLemmas
pub mod ShortLemmas
pub mod FullLemmas
pub mod GatheredLemmas
pub mod SizeLemmas
pub mod WideLemmas
mod WideSizeLemmas
pub mod CalmLemmas
pub mod MendLemmas
mod Examples

pub mod ContentLemmas
pub mod CutLemmas
pub mod DownLemmas
pub mod EndsLemmas
pub mod FewLemmas
pub mod FrameLemmas
pub mod JoinLemmas
pub mod JoiningLemmas
pub mod KeptLemmas
pub mod MomentLemmas
pub mod OverLemmas
pub mod PlaceLemmas
pub mod PublishedLemmas
pub mod QuietLemmas
pub mod StillLemmas
mod StoppedLemmas
pub mod TotalLemmas
pub mod UpLemmas

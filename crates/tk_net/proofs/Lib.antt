mod CableLemmas
mod Examples
mod LawLemmas

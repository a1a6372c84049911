mod ExchangeLemmas
mod BlockLemmas
mod GreatestLemmas
mod NodeLemmas
mod RankLemmas
mod SidesLemmas
mod TreeLemmas

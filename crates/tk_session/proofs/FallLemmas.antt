-- No place falls from one session of a chain to a later one.
use Rattle.std.proofs.Common.{ℕ, List, [], ◌∷◌, ◌++◌, sym, subst, arith}
use Rattle.tk_base.specs.Settings.{Setup}
use Rattle.tk_input.specs.Logs.{LogSet}
use Rattle.tk_story.specs.Kept.{KeptStory}
use Rattle.tk_story.specs.Moments.{cut_of}
use Rattle.tk_session.specs.Chain.{IsChainFrom, NoPlaceFalls}
use Rattle.tk_session.proofs.CutLemmas.{PlacesNeverFall, no_place_falls_within}

falls_on : (a b c : List (List ℕ)) → NoPlaceFalls a b → NoPlaceFalls b c → NoPlaceFalls a c
falls_on a b c one two j f = let x = one j f in let y = two j f in omega (arith, x, y)

falls_not : (a : List (List ℕ)) → NoPlaceFalls a a
falls_not a j f = omega arith

-- from where a chain begins to where a session of it begins
reaches : PlacesNeverFall → (settings : Setup) (logs : LogSet) (from : List (List ℕ)) (between back : List KeptStory) (other : KeptStory)
    → IsChainFrom settings logs from (between ++ other ∷ back) → NoPlaceFalls from other.story.from
reaches rise settings logs from [] back other chain = subst (λ at. NoPlaceFalls from at) (sym chain.0.runs.from_is) (falls_not from)
reaches rise settings logs from (kept ∷ between) back other chain =
    let within = subst (λ at. NoPlaceFalls at (cut_of kept.story)) chain.0.runs.from_is (no_place_falls_within rise kept.story chain.0.legal) in
    falls_on from (cut_of kept.story) other.story.from within (reaches rise settings logs (cut_of kept.story) between back other chain.1)

pub no_place_falls_between : PlacesNeverFall → (settings : Setup) (logs : LogSet) (from : List (List ℕ)) (front between back : List KeptStory) (one other : KeptStory)
    → IsChainFrom settings logs from (front ++ one ∷ (between ++ other ∷ back)) → NoPlaceFalls (cut_of one.story) other.story.from
no_place_falls_between rise settings logs from [] between back one other chain = reaches rise settings logs (cut_of one.story) between back other chain.1
no_place_falls_between rise settings logs from (kept ∷ front) between back one other chain =
    no_place_falls_between rise settings logs (cut_of kept.story) front between back one other chain.1

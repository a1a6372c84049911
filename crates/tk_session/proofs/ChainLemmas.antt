-- Chains that grow by a session, or whose last session goes on.
use Rattle.std.proofs.Common.{◌≡◌, ℕ, List, [], ◌∷◌, ◌++◌, length, arith, All, suc, zero, refl, sym, ap, ◌∙◌, subst}
use Rattle.tk_base.specs.Settings.{Setup}
use Rattle.tk_input.specs.Logs.{LogSet, beginnings}
use Rattle.tk_input.specs.declared.event.Event.{Event}
use Rattle.tk_story.specs.Kept.{KeptStory}
use Rattle.tk_story.specs.Moments.{cut_of}
use Rattle.tk_story.specs.Story.{IsStory}
use Rattle.tk_drain.specs.Drive.{IsReached}
use Rattle.tk_session.specs.Chain.{IsChain, IsChainFrom, IsSession, KeepStretches, begun}
use Rattle.tk_session.specs.Chain.KeepStretches.{Last, Restarts}

-- ---- the laws of sessions that are used

abbrev pub SessionsBegin : Type 0
SessionsBegin = (settings : Setup) (logs : LogSet) (from : List (List ℕ)) → IsStory (begun settings logs from).story → IsSession settings logs from (begun settings logs from)

abbrev pub SessionsGoOn : Type 0
SessionsGoOn = (settings : Setup) (logs : LogSet) (from : List (List ℕ)) (old new : KeptStory) → IsSession settings logs from old → IsReached old new → IsSession settings logs from new

-- ---- where a chain ends

-- the cut at which some sessions end, the first of which begins at another
abbrev cut_behind : List (List ℕ) → List KeptStory → List (List ℕ)
cut_behind from [] = from
cut_behind from (kept ∷ more) = cut_behind (cut_of kept.story) more

behind_last : (from : List (List ℕ)) (past : List KeptStory) (last : KeptStory) → cut_behind from (past ++ last ∷ []) ≡ cut_of last.story
behind_last from [] last = refl
behind_last from (kept ∷ past) last = behind_last (cut_of kept.story) past last

last_of : (settings : Setup) (logs : LogSet) (from : List (List ℕ)) (past : List KeptStory) (last : KeptStory) → IsChainFrom settings logs from (past ++ last ∷ []) → IsSession settings logs (cut_behind from past) last
last_of settings logs from [] last chain = chain.0
last_of settings logs from (kept ∷ past) last chain = last_of settings logs (cut_of kept.story) past last chain.1

with_last : (settings : Setup) (logs : LogSet) (from : List (List ℕ)) (past : List KeptStory) (old new : KeptStory) → IsChainFrom settings logs from (past ++ old ∷ []) → IsSession settings logs (cut_behind from past) new
    → IsChainFrom settings logs from (past ++ new ∷ [])
with_last settings logs from [] old new chain s = (s, tt)
with_last settings logs from (kept ∷ past) old new chain s = (chain.0, with_last settings logs (cut_of kept.story) past old new chain.1 s)

with_more : (settings : Setup) (logs : LogSet) (from : List (List ℕ)) (past : List KeptStory) (next : KeptStory) → IsChainFrom settings logs from past → IsSession settings logs (cut_behind from past) next
    → IsChainFrom settings logs from (past ++ next ∷ [])
with_more settings logs from [] next chain s = (s, tt)
with_more settings logs from (kept ∷ past) next chain s = (chain.0, with_more settings logs (cut_of kept.story) past next chain.1 s)

-- ---- chains of sessions

-- the settings and logs of the last session are those of the chain
over_last : (settings : Setup) (logs : LogSet) (past : List KeptStory) (last : KeptStory) → last.story.settings ≡ settings → last.story.logs ≡ logs → IsChain settings logs (past ++ last ∷ [])
    → IsChain last.story.settings last.story.logs (past ++ last ∷ [])
over_last settings logs past last a b chain =
    subst (λ (l : LogSet). IsChain last.story.settings l (past ++ last ∷ [])) (sym b) (subst (λ (s : Setup). IsChain s logs (past ++ last ∷ [])) (sym a) chain)

-- the first session alone
pub chain_begins : SessionsBegin → (settings : Setup) (logs : LogSet) → IsStory (begun settings logs (beginnings logs)).story → IsChain settings logs (begun settings logs (beginnings logs) ∷ [])
chain_begins begins settings logs h = (begins settings logs (beginnings logs) h, tt)

-- the last session goes on
pub chain_goes_on : SessionsGoOn → (past : List KeptStory) (old new : KeptStory) → IsReached old new → IsChain old.story.settings old.story.logs (past ++ old ∷ []) → IsChain new.story.settings new.story.logs (past ++ new ∷ [])
chain_goes_on goes_on past old new reached chain =
    let settings = old.story.settings in
    let logs = old.story.logs in
    let from = beginnings logs in
    let s = goes_on settings logs (cut_behind from past) old new (last_of settings logs from past old chain) reached in
    over_last settings logs past new s.runs.settings_is s.runs.logs_is (with_last settings logs from past old new chain s)

-- a restart begins a further session
pub chain_restarts : SessionsBegin → (past : List KeptStory) (old : KeptStory) → IsStory (begun old.story.settings old.story.logs (cut_of old.story)).story → IsChain old.story.settings old.story.logs (past ++ old ∷ [])
    → IsChain old.story.settings old.story.logs ((past ++ old ∷ []) ++ begun old.story.settings old.story.logs (cut_of old.story) ∷ [])
chain_restarts begins past old h chain =
    let settings = old.story.settings in
    let logs = old.story.logs in
    let from = beginnings logs in
    let next = begun settings logs (cut_of old.story) in
    with_more settings logs from (past ++ old ∷ []) next chain (subst (λ (at : List (List ℕ)). IsSession settings logs at next) (sym (behind_last from past old)) (begins settings logs (cut_of old.story) h))

-- the same, of what a restart leaves
pub restarted_chain : SessionsBegin → (past grown : List KeptStory) (old ended next : KeptStory) → ended ≡ old → grown ≡ past ++ ended ∷ [] → next ≡ begun old.story.settings old.story.logs (cut_of old.story) → IsStory next.story
    → IsChain old.story.settings old.story.logs (past ++ old ∷ []) → IsChain next.story.settings next.story.logs (grown ++ next ∷ [])
restarted_chain begins past grown old ended next was grows is h chain =
    let settings = old.story.settings in
    let logs = old.story.logs in
    let fresh = begun settings logs (cut_of old.story) in
    let more = chain_restarts begins past old (subst (λ (k : KeptStory). IsStory k.story) is h) chain in
    subst (λ (k : KeptStory). IsChain k.story.settings k.story.logs (grown ++ k ∷ [])) (sym is)
    (subst (λ (all : List KeptStory). IsChain settings logs (all ++ fresh ∷ [])) (sym (grows ∙ ap (λ (k : KeptStory). past ++ k ∷ []) was)) more)

-- the first session alone, as it is made
pub begun_chain : SessionsBegin → (settings : Setup) (logs : LogSet) (past : List KeptStory) (from : List (List ℕ)) (first : KeptStory) → past ≡ [] → from ≡ beginnings logs → first ≡ begun settings logs from → IsStory first.story
    → IsChain first.story.settings first.story.logs (past ++ first ∷ [])
begun_chain begins settings logs past from first none at is h =
    let made : first ≡ begun settings logs (beginnings logs) = is ∙ ap (λ (f : List (List ℕ)). begun settings logs f) at in
    subst (λ (k : KeptStory). IsChain k.story.settings k.story.logs (past ++ k ∷ [])) (sym made)
    (subst (λ (ks : List KeptStory). IsChain settings logs (ks ++ begun settings logs (beginnings logs) ∷ [])) (sym none)
    (chain_begins begins settings logs (subst (λ (k : KeptStory). IsStory k.story) made h)))

-- ---- what holds of each session

pub chain_is_legal : (settings : Setup) (logs : LogSet) (from : List (List ℕ)) (stories : List KeptStory) → IsChainFrom settings logs from stories → All (λ kept. IsStory kept.story) stories
chain_is_legal settings logs from [] chain k d below = absurd (omega (arith, below))
chain_is_legal settings logs from (kept ∷ more) chain zero d below = chain.0.legal
chain_is_legal settings logs from (kept ∷ more) chain (suc k) d below = chain_is_legal settings logs (cut_of kept.story) more chain.1 k d (omega (arith, below))

pub one_for_each : (stretches : List (List Event)) (stories : List KeptStory) → KeepStretches stretches stories → length stories ≡ length stretches
one_for_each [] stories keep = elim keep [ ]
one_for_each (stretch ∷ more) [] keep = elim keep [ ]
one_for_each (stretch ∷ []) (kept ∷ []) (Last s k drives over) = refl
one_for_each (stretch ∷ more) (kept ∷ stories) (Restarts s m k t is rest) = let same = one_for_each more stories rest in omega (arith, same)

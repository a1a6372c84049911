-- The stories of sessions: over one catalogue, and their texts one after the other.
use Rattle.std.proofs.Common.{◌≡◌, ℕ, suc, zero, ◌+◌, ◌<◌, List, [], ◌∷◌, ◌++◌, All, Ok, length, length-append, take, get_or, sym, ap, subst, ◌∙◌, arith}
use Rattle.std.specs.Prelude.{flat_map}
use Rattle.std.specs.List.{enumerate_from}
use Rattle.std.proofs.Math.Seq.{get_or-append_seam}
use Rattle.std.proofs.lemmas.List.FromFn.{get_or-enumerate_from, length-enumerate_from}
use Rattle.tk_base.specs.Settings.{Setup}
use Rattle.tk_input.specs.Logs.{LogSet, beginnings}
use Rattle.tk_input.specs.Records.{through}
use Rattle.tk_input.specs.declared.event.Event.{Event}
use Rattle.tk_session.specs.Chain.{IsChainFrom, IsChainOf, KeepStretches}
use Rattle.tk_session.specs.Chain.KeepStretches.{Last, Restarts}
use Rattle.tk_session.specs.Order.{lines_of, session_order_of}
use Rattle.tk_session.specs.declared.session_line.SessionLine.{SessionLine}
use Rattle.tk_story.specs.Kept.{KeptStory}
use Rattle.tk_story.specs.Moments.{IsOver, cut_of}
use Rattle.tk_story.specs.Story.{IsStory}
use Rattle.tk_ledger.specs.Text.{text_of}
use Rattle.tk_run.specs.Sessions.{numbered_text, session_title}
use Rattle.tk_run.proofs.MultiLemmas.{texts_more}

-- no bytes are no order
pub empty_order : (order : List (ℕ × SessionLine)) → session_order_of [] ≡ Ok order → lines_of order ≡ []
unfolding through
empty_order order is = let same : [] ≡ order = cc (is) in ap (λ (o : List (ℕ × SessionLine)). lines_of o) (sym same)

-- each session of a chain is over the same settings
each_over : (settings : Setup) (logs : LogSet) (from : List (List ℕ)) (stories : List KeptStory) → IsChainFrom settings logs from stories
    → (i : ℕ) (d : KeptStory) → i < length stories → (get_or stories i d).story.settings ≡ settings
each_over settings logs from [] chain i d within = absurd (omega (arith, within))
each_over settings logs from (kept ∷ more) chain zero d within = chain.0.runs.settings_is
each_over settings logs from (kept ∷ more) chain (suc i) d within = each_over settings logs (cut_of kept.story) more chain.1 i d (omega (arith, within))

-- so its objects have names
pub are_named : (names : List (List ℕ)) (settings : Setup) (logs : LogSet) (order : List SessionLine) (stories : List KeptStory) → length names ≡ settings.objects → IsChainOf settings logs order stories
    → All (λ (kept : KeptStory). length names ≡ kept.story.settings.objects) stories
are_named names settings logs order stories is chain = λ i d within.
    is ∙ ap (λ (s : Setup). s.objects) (sym (each_over settings logs (beginnings logs) stories chain.chain i d within))

-- one more text
pub text_more : (names : List (List ℕ)) (stories : List KeptStory) (i : ℕ) (kept : KeptStory) → i < length stories → kept ≡ get_or stories i kept
    → flat_map (numbered_text names) (take (i + 1) (enumerate_from 1 stories)) ≡ flat_map (numbered_text names) (take i (enumerate_from 1 stories)) ++ (session_title (i + 1) ++ text_of names kept.story)
text_more names stories i kept within is =
    let number : i + 1 ≡ 1 + i = omega arith in
    let inside = length-enumerate_from 1 stories in
    texts_more (numbered_text names) (enumerate_from 1 stories) i (i + 1, kept) (omega (arith, within, inside))
    (ap (λ (k : KeptStory). (i + 1, k)) is ∙ ap (λ (n : ℕ). (n, get_or stories i kept)) number ∙ sym (get_or-enumerate_from 1 stories i (i + 1, kept) within))

-- the last session is legal, and it is over
pub last_legal : (stories : List KeptStory) → All (λ (kept : KeptStory). IsStory kept.story) stories → (front : List KeptStory) (last : KeptStory) → stories ≡ front ++ last ∷ [] → IsStory last.story
last_legal stories legal front last is =
    let all : All (λ (kept : KeptStory). IsStory kept.story) (front ++ last ∷ []) = subst (All (λ (kept : KeptStory). IsStory kept.story)) is legal in
    subst (λ (kept : KeptStory). IsStory kept.story) (get_or-append_seam front last [] last) (all (length front) last (omega (arith, length-append front (last ∷ []))))

none_behind : (front : List KeptStory) (last : KeptStory) → [] ≡ front ++ last ∷ [] → ⊥
none_behind [] last is = cc (is)
none_behind (kept ∷ front) last is = cc (is)

some_story : (stretches : List (List Event)) (stories : List KeptStory) → KeepStretches stretches stories → stories ≡ [] → ⊥
some_story _ _ (Last stretch kept drives over) is = cc (is)
some_story _ _ (Restarts stretch more kept stories ended rest) is = cc (is)

pub last_over : (stretches : List (List Event)) (stories : List KeptStory) → KeepStretches stretches stories → (front : List KeptStory) (last : KeptStory) → stories ≡ front ++ last ∷ [] → IsOver last.story
last_over _ _ (Last stretch kept drives over) [] last is = let same : kept ≡ last = cc (is) in subst (λ (k : KeptStory). IsOver k.story) same over
last_over _ _ (Last stretch kept drives over) (first ∷ front) last is = absurd (none_behind front last (cc (is)))
last_over _ _ (Restarts stretch more kept stories ended rest) [] last is = absurd (some_story more stories rest (cc (is)))
last_over _ _ (Restarts stretch more kept stories ended rest) (first ∷ front) last is = last_over more stories rest front last (cc (is))

-- The turn of a retune: which refusal it meets, and what is kept of the journal that it brings about.
use Rattle.std.proofs.Common.{◌≡◌, ℕ, Bool, true, false, not, ◌+◌, ◌^◌, ◌<◌, ◌||◌, ℤ, pos, List, [], ◌∷◌, ◌++◌, Option, Some, None, Ok, Err, refl, sym, ap, ◌∙◌, subst, arith}
use Rattle.std.specs.Prelude.{nat_le, if◌then◌else◌}
use Rattle.std.specs.List.{range_with_len}
use Rattle.std.proofs.lemmas.List.{append_assoc}
use Rattle.tk_base.specs.Objects.{objects}
use Rattle.tk_base.specs.Settings.{Setup, is_k}
use Rattle.tk_journal.specs.Legal.{turn_of}
use Rattle.tk_journal.specs.Readings.{Tuning, monitors, last_round, asked_of, values_of, is_open, is_stopped, tunings, tuned_to}
use Rattle.tk_journal.specs.Refusal.{retune_refusal_of}
use Rattle.tk_journal.specs.Turns.{collects, rounds, wide_collects}
use Rattle.tk_base.specs.History.{last_of}
use Rattle.tk_journal.specs.declared.noted.Noted.{Noted}
use Rattle.tk_journal.specs.declared.noted.Noted.TheVariants as n
use Rattle.tk_journal.specs.declared.refusal.RetuneRefusal.{RetuneRefusal}
use Rattle.tk_journal.specs.declared.refusal.RetuneRefusal.TheVariants as retune
use Rattle.tk_journal.proofs.Appends.{last_of-append, members_at-append, asked_of-append, values_of-append, answer_of-append, progress_of-append, is_stopped-append}
use Rattle.tk_journal.proofs.Batches.{collects_round}
use Rattle.tk_journal.proofs.LegalLemmas.{orderly_tuned, tuned_assigns, tuned_round, tuned_waits}
use Rattle.tk_journal.proofs.LawLemmas.{one_less}
use Rattle.tk_journal.proofs.Orderly.{IsOrderly}
use Rattle.tk_journal.proofs.Published.{collects_are_wanted, no_stop}
use Rattle.tk_journal.proofs.SoundLemmas.{collects_open}
use Rattle.tk_journal.proofs.Tuning.{force_closed, force_tuned, tuned_list}
use Rattle.tk_coord.specs.Coordinator.{IsJournal}
use Rattle.tk_coord.specs.Grounds.{OpensOver}
use Rattle.tk_coord.specs.State.{Holds, Stands}
use Rattle.tk_coord.specs.Steps.{IsAsked, IsReply, IsRetuned, retuned_to}
use Rattle.tk_coord.specs.declared.round.Round.{Round}
use Rattle.tk_coord.specs.declared.phase.Phase.{Phase}
use Rattle.tk_coord.specs.declared.state.State.{State}
use Rattle.tk_coord.specs.declared.step.TurnOutcome.{TurnOutcome}
use Rattle.tk_coord.specs.declared.step.Reply.{Reply}
use Rattle.tk_coord.specs.declared.step.Reply.TheVariants as reply
use Rattle.tk_coord.proofs.AskedLemmas.{wide_is_asked}
use Rattle.tk_coord.proofs.FollowLemmas.{wide_over}
use Rattle.tk_coord.proofs.GroundLemmas.{force_large}
use Rattle.tk_coord.proofs.GrowLemmas.{firm_at, limits_at, orderly_at}
use Rattle.tk_coord.proofs.KeepLemmas.{ReadsAs, holds_as}

-- ---- the refusals

-- by k and epsilon alone
abbrev by_limits : ℕ → ℕ → ℕ → Option RetuneRefusal
by_limits objects k e = if not (is_k k objects) then Some retune.BadK else (if not (nat_le e (2 ^ 100)) then Some retune.BadEpsilon else None)

-- the settings of a retune, or what is past its limit, as its refusal
refused_by : {X : Type 0} (a b : Bool) (next : X) (r : RetuneRefusal) → (if not a then Err retune.BadK else (if not b then Err retune.BadEpsilon else Ok next)) ≡ Err r
    → (if not a then Some retune.BadK else (if not b then Some retune.BadEpsilon else None)) ≡ Some r
refused_by false b next r is = let same : retune.BadK ≡ r = cc in ap Some same
refused_by true false next r is = let same : retune.BadEpsilon ≡ r = cc in ap Some same
refused_by true true next r is = cc

-- where there are such settings, nothing is past its limit
accepted_by : {X : Type 0} (a b : Bool) (to next : X) → (if not a then Err retune.BadK else (if not b then Err retune.BadEpsilon else Ok to)) ≡ Ok next
    → ((if not a then Some retune.BadK else (if not b then Some retune.BadEpsilon else None)) ≡ None) × (next ≡ to)
accepted_by false b to next is = cc
accepted_by true false to next is = cc
accepted_by true true to next is = let same : next ≡ to = cc in (refl, same)

-- after Stop
pub stopped_refuses : (s : Setup) (j : List Noted) (k e : ℕ) → is_stopped j ≡ true → retune_refusal_of s j k e ≡ Some retune.AfterStop
unfolding retune_refusal_of
stopped_refuses s j k e stopped = ap (λ b. if b then Some retune.AfterStop else (if is_open s j then Some retune.RoundOpen else by_limits s.objects k e)) stopped

-- before it, by the rest
going_refuses : (s : Setup) (j : List Noted) (k e : ℕ) → is_stopped j ≡ false → retune_refusal_of s j k e ≡ (if is_open s j then Some retune.RoundOpen else by_limits s.objects k e)
unfolding retune_refusal_of
going_refuses s j k e going = ap (λ b. if b then Some retune.AfterStop else (if is_open s j then Some retune.RoundOpen else by_limits s.objects k e)) going

-- while a round is open
pub open_refuses : (s : Setup) (j : List Noted) (k e : ℕ) → is_stopped j ≡ false → is_open s j ≡ true → retune_refusal_of s j k e ≡ Some retune.RoundOpen
open_refuses s j k e going opened = going_refuses s j k e going ∙ ap (λ b. if b then Some retune.RoundOpen else by_limits s.objects k e) opened

-- while none is open
closed_refuses : (s : Setup) (j : List Noted) (k e : ℕ) → is_stopped j ≡ false → is_open s j ≡ false → retune_refusal_of s j k e ≡ by_limits s.objects k e
closed_refuses s j k e going closed = going_refuses s j k e going ∙ ap (λ b. if b then Some retune.RoundOpen else by_limits s.objects k e) closed

-- what is past its limit
pub past_refuses : (s : Setup) (j : List Noted) (k e : ℕ) (r : RetuneRefusal) → is_stopped j ≡ false → is_open s j ≡ false → retuned_to s k e ≡ Err r
    → retune_refusal_of s j k e ≡ Some r
past_refuses s j k e r going closed is =
    closed_refuses s j k e going closed ∙ refused_by (is_k k s.objects) (nat_le e (2 ^ 100)) (record s { k = k; epsilon = pos e }) r is

-- where the settings are within the limits, nothing refuses
pub none_refuses : (s : Setup) (j : List Noted) (k e : ℕ) (next : Setup) → is_stopped j ≡ false → is_open s j ≡ false → retuned_to s k e ≡ Ok next → IsRetuned s j k e next
none_refuses s j k e next going closed is =
    let both = accepted_by (is_k k s.objects) (nat_le e (2 ^ 100)) (record s { k = k; epsilon = pos e }) next is in
    record {
      going = going;
      closed = closed;
      accepted = closed_refuses s j k e going closed ∙ both.0;
      brings = both.1;
    }

-- ---- the turn

-- the journal with a retune
abbrev pub with_tuned : List Noted → ℕ → ℕ → List Noted
with_tuned j k e = j ++ n.Tuned k (pos e) ∷ []

-- its turn is the retune with the Collects of a wide round
pub tuned_turn : (s : Setup) (j : List Noted) (k e : ℕ) → j ++ turn_of s j (n.Tuned k (pos e)) ≡ j ++ n.Tuned k (pos e) ∷ wide_collects s (rounds s j + 1)
unfolding turn_of
tuned_turn s j k e = refl

-- the same, as Collects over the journal with the retune
turn_whole : (s : Setup) (j : List Noted) (k e : ℕ) → j ++ turn_of s j (n.Tuned k (pos e)) ≡ with_tuned j k e ++ wide_collects s (rounds s j + 1)
turn_whole s j k e = tuned_turn s j k e ∙ sym (append_assoc j (n.Tuned k (pos e) ∷ []) (wide_collects s (rounds s j + 1)))

-- ---- the readings that a retune leaves as they are

-- all of which something is kept
tuned_reads : (j : List Noted) (k e : ℕ) → ReadsAs j (with_tuned j k e)
unfolding asked_of values_of
tuned_reads j k e = record {
  assigns = λ mon. tuned_assigns mon j k (pos e);
  members = members_at-append j (n.Tuned k (pos e) ∷ []);
  answer = λ mon. answer_of-append mon j (n.Tuned k (pos e) ∷ []);
  progress = λ mon. progress_of-append mon j (n.Tuned k (pos e) ∷ []);
  round = tuned_round j k (pos e);
  asked = λ r mon. asked_of-append r mon j (n.Tuned k (pos e) ∷ []);
  values = λ r mon. values_of-append r mon j (n.Tuned k (pos e) ∷ []);
}

-- the number of its round is past all before it
new_round : (s : Setup) (j : List Noted) (k e : ℕ) → IsOrderly s j → last_round (with_tuned j k e) < rounds s j + 1
new_round s j k e o = let l = o.counted.last in let t = tuned_round j k (pos e) in omega (arith, l, t)

-- the Collects of its round
pub tuned_is_asked : (s : Setup) (j : List Noted) (k e : ℕ) (next : Setup) (outcome : TurnOutcome) → IsJournal s j → IsRetuned s j k e next → OpensOver s j outcome
    → (outcome.entries.items ≡ wide_collects s (rounds s j + 1)) × IsReply s (with_tuned j k e) outcome.entries.items outcome.reply
tuned_is_asked s j k e next outcome h r o =
    let number = rounds s j + 1 in
    let mid = with_tuned j k e in
    let large = force_large s j outcome.phase.settings o.stands.settings in
    let order = orderly_at s j h in
    let over = orderly_tuned s j k (pos e) order in
    let round : Round = record { number = number; waiting = true; wide = true; asked = objects s.objects } in
    let asked : IsAsked s mid (wide_collects s number) round None =
    wide_is_asked s mid number (limits_at s j h).some_monitor (tuned_waits j k (pos e) s ∙ r.closed) over.counted (new_round s j k e order) in
    let sends : outcome.entries.items ≡ wide_collects s number = o.opens.sends ∙ wide_over outcome.phase.settings s number large in (
      sends,
      subst (λ (x : Reply). IsReply s mid outcome.entries.items x)
          (sym (o.opens.reply ∙ ap (λ (q : ℕ). reply.Ask (record { number = number; waiting = true; wide = true; asked = objects q }) None) large.objects))
          (subst (λ xs. IsAsked s mid xs round None) (sym sends) asked),
    )

-- what is kept of the frames after the turn
pub retuned_holds : (s : Setup) (j entries : List Noted) (k e : ℕ) (old new : State) (r : Reply) → entries ≡ wide_collects s (rounds s j + 1)
    → IsReply s (with_tuned j k e) entries r → Holds s j old
    → ((q : Setup) (b sent : List Noted) → IsReply q b sent r → Holds q b old → Holds q (b ++ sent) new) → Holds s (j ++ turn_of s j (n.Tuned k (pos e))) new
retuned_holds s j entries k e old new r is sent h replies =
    subst (λ b. Holds s b new) (ap (λ xs. with_tuned j k e ++ xs) is ∙ sym (turn_whole s j k e)) (replies s (with_tuned j k e) entries sent (holds_as s j (with_tuned j k e) old (tuned_reads j k e) h))

-- ---- what holds until the next turn

-- no Stop is sent
tuned_stop : (s : Setup) (j : List Noted) (k e round : ℕ) → is_stopped j ≡ false → is_stopped (with_tuned j k e ++ wide_collects s round) ≡ false
unfolding is_stopped
tuned_stop s j k e round going =
    is_stopped-append (with_tuned j k e) (wide_collects s round)
    ∙ ap (λ b. b || is_stopped (wide_collects s round)) (is_stopped-append j (n.Tuned k (pos e) ∷ []) ∙ ap (λ b. b || false) going)
    ∙ no_stop (wide_collects s round) (collects_are_wanted round (objects s.objects) (monitors s))

-- what stands after the turn: k and epsilon are in force from the end of its round
pub retuned_stands : (s : Setup) (j : List Noted) (k e : ℕ) (phase : Phase) (next : Setup) → IsJournal s j → Stands s j phase → IsRetuned s j k e next
    → Stands s (j ++ turn_of s j (n.Tuned k (pos e))) (record phase { next = next })
retuned_stands s j k e phase next h st r =
    let round = rounds s j + 1 in
    let mid = with_tuned j k e in
    let all = objects s.objects in
    let after = mid ++ wide_collects s round in
    let tuned = (firm_at s j h).tuned in
    let first = one_less s.monitors (limits_at s j h).some_monitor in
    let mons : monitors s ≡ 1 ∷ range_with_len (1 + 1) first.0 = ap (range_with_len 1) first.1 in
    let rest = range_with_len (1 + 1) first.0 in
    let order = orderly_at s j h in
    let over = orderly_tuned s j k (pos e) order in
    let new : last_round j < round = (let l = order.counted.last in omega (arith, l)) in
    let list = ap (λ xs. tunings (mid ++ collects round all xs)) mons ∙ tuned_list s j k (pos e) round all 1 rest tuned in
    let last : last_round after ≡ round = ap (λ xs. last_round (mid ++ collects round all xs)) mons ∙ collects_round mid round all 1 rest in
    let opened' : is_open s after ≡ true = collects_open s mid round first.0 first.1 over.counted (new_round s j k e order) in
    subst (λ b. Stands s b (record phase { next = next })) (sym (turn_whole s j k e)) (record {
      settings = st.settings ∙ force_closed s j r.closed tuned ∙ sym (force_tuned s j after k (pos e) round list last new opened' tuned);
      next = r.brings
          ∙ sym (ap (λ (ts : List Tuning). tuned_to s (last_of ts)) list
          ∙ ap (tuned_to s) (last_of-append (tunings j) (record { k = k; epsilon = pos e; round = Some round } ∷ [])));
      stopped = st.stopped ∙ r.going ∙ sym (tuned_stop s j k e round r.going);
    })

-- ---- what was noted

-- the entry that was noted is the retune
pub tuned_entry : (s : Setup) (j : List Noted) (k e number : ℕ) (kept : ℤ) (next : Setup) → IsRetuned s j k e next → number ≡ next.k
    → kept ≡ next.epsilon → n.Tuned number kept ≡ n.Tuned k (pos e)
tuned_entry s j k e number kept next r of_k of_epsilon =
    ap (λ (q : ℕ). n.Tuned q kept) (of_k ∙ ap (λ (x : Setup). x.k) r.brings) ∙ ap (n.Tuned k) (of_epsilon ∙ ap (λ (x : Setup). x.epsilon) r.brings)

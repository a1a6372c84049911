-- The last publication: it alone has `last`, and Stop to every monitor ends the journal behind it.
use Rattle.std.proofs.Common.{◌≡◌, ℕ, suc, ◌+◌, Bool, true, false, ◌||◌, List, [], ◌∷◌, ◌++◌, map, Some, None, refl, sym, ap, ◌∙◌, subst}
use Rattle.std.specs.Prelude.{ℤ, ◌^◌, not, nat_le, if◌then◌else◌}
use Rattle.std.specs.List.{list_any, range_with_len, enumerate_from}
use Rattle.std.proofs.lemmas.Bool.{true≢false}
use Rattle.std.proofs.lemmas.List.{append-nil, append_assoc}
use Rattle.std.proofs.lemmas.List.Elements.{filter_map-append}
use Rattle.std.proofs.Math.Bool.{or-true}
use Rattle.tk_base.specs.Settings.{Setup, is_k}
use Rattle.tk_base.specs.Objects.{objects}
use Rattle.tk_base.specs.declared.ids.Mon.{Mon}
use Rattle.tk_base.proofs.OptionLemmas.{if_none}
use Rattle.tk_frames.specs.declared.frame.Frame.{Frame}
use Rattle.tk_frames.specs.declared.frame.Frame.TheVariants as f
use Rattle.tk_journal.specs.Laws.{HasEnded, AreNotLast}
use Rattle.tk_journal.specs.Readings.{monitors, is_stop, is_stopped, is_open}
use Rattle.tk_journal.specs.Turns.{rounds, wide_collects, demanded}
use Rattle.tk_journal.specs.Publishing.{publications, published_in, publication_at, is_due, is_last, closing, stops}
use Rattle.tk_journal.specs.Refusal.{refusal_of, retune_refusal_of}
use Rattle.tk_journal.specs.Legal.{Opening, opened, IsAccepted, IsLegal, turn_of}
use Rattle.tk_journal.specs.declared.noted.Noted.{Noted}
use Rattle.tk_journal.specs.declared.noted.Noted.TheVariants as n
use Rattle.tk_journal.specs.declared.publication.Publication.{Publication}
use Rattle.tk_journal.specs.declared.refusal.RetuneRefusal.TheVariants as retune
use Rattle.tk_journal.proofs.Appends.{is_stopped-append}
use Rattle.tk_journal.proofs.Pieces.{got_stopped}
use Rattle.tk_journal.proofs.Accepted.{accepted_kind}
use Rattle.tk_journal.proofs.Published.{AreWanted, as_sent, no_stop, batch_wanted, collects_are_wanted, demanded_wanted, sent_none, none_more}
use Rattle.tk_journal.proofs.LegalLemmas.{legal_carries}

-- a journal that goes on, or one that has ended
pub record EndsWell (s : Setup) (j : List Noted) : Type 0 where
  pub going : is_stopped j ≡ false → AreNotLast (publications j)
  pub ended : is_stopped j ≡ true → HasEnded s j

not_last_more : (ps : List Publication) (p : Publication) → AreNotLast ps → p.last ≡ false → AreNotLast (ps ++ p ∷ [])
not_last_more [] p each here = (here, tt)
not_last_more (q ∷ ps) p each here = (each.0, not_last_more ps p each.1 here)

-- what goes on, and publishes nothing, goes on
goes_on : (s : Setup) (j k : List Noted) → publications k ≡ publications j → is_stopped k ≡ false → is_stopped j ≡ false → EndsWell s j → EndsWell s k
goes_on s j k same still was e = record {
  going = λ _. subst AreNotLast (sym same) (e.going was);
  ended = λ is. absurd (true≢false (sym is ∙ still));
}

-- with a monitor there is a Stop
stopped_by : (s : Setup) (k : ℕ) (j : List Noted) (p : Publication) → s.monitors ≡ suc k → is_stopped (j ++ n.Published p ∷ stops s) ≡ true
unfolding is_stopped
stopped_by s k j p some =
    is_stopped-append j (n.Published p ∷ stops s)
    ∙ ap (λ m. list_any is_stop j || list_any is_stop (n.Published p ∷ map (λ mon. n.Sent (record { 0 = mon }) f.Stop) (range_with_len 1 m))) some
    ∙ or-true (list_any is_stop j)

-- the end of a turn: nothing, a publication, or the last one with its Stops
closes_as : (s : Setup) (k : ℕ) (j : List Noted) (due last : Bool) (p : Publication) → s.monitors ≡ suc k → p.last ≡ last → is_stopped j ≡ false → EndsWell s j
    → EndsWell s (j ++ (if due then n.Published p ∷ (if last then stops s else []) else []))
unfolding is_stopped
closes_as s k j false last p some is still e = subst (EndsWell s) (sym (append-nil j)) e
closes_as s k j true false p some is still e =
    let after = j ++ n.Published p ∷ [] in
    record {
      going = λ _. subst AreNotLast (sym (filter_map-append published_in j (n.Published p ∷ []))) (not_last_more (publications j) p (e.going still) is);
      ended = λ stopped. absurd (true≢false (sym stopped ∙ is_stopped-append j (n.Published p ∷ []) ∙ ap (λ b. b || false) still));
    }
closes_as s k j true true p some is still e = record {
  going = λ running. absurd (true≢false (sym (stopped_by s k j p some) ∙ running));
  ended = λ _. record { front = j; final = p; is = refl; last = is; others = e.going still };
}

closes_well : (s : Setup) (k : ℕ) (j : List Noted) → s.monitors ≡ suc k → is_stopped j ≡ false → EndsWell s j → EndsWell s (j ++ closing s j)
unfolding closing
closes_well s k j some still e = closes_as s k j (is_due s j) (is_last s j) (publication_at s j) some refl still e

running_more : (j entries : List Noted) → is_stopped j ≡ false → AreWanted entries → is_stopped (j ++ entries) ≡ false
running_more j entries still w = is_stopped-append j entries ∙ ap (λ b. b || is_stopped entries) still ∙ no_stop entries w

got_turn : (s : Setup) (k : ℕ) (before : List Noted) (from : Mon) (frame : Frame) → s.monitors ≡ suc k → refusal_of s before from.0 frame ≡ None → EndsWell s before
    → EndsWell s (before ++ turn_of s before (n.Got from frame))
unfolding turn_of
got_turn s k before from frame some none e =
    let now = before ++ n.Got from frame ∷ [] in
    let wanted = demanded_wanted s before from.0 frame in
    let turn = n.Got from frame ∷ demanded s before from.0 frame in
    let running = (accepted_kind s before from.0 frame none).0 in
    let running_now : is_stopped now ≡ false = got_stopped before from frame ∙ running in
    let running_turn : is_stopped (now ++ demanded s before from.0 frame) ≡ false = running_more now (demanded s before from.0 frame) running_now wanted in
    let whole : now ++ demanded s before from.0 frame ≡ before ++ turn = append_assoc before (n.Got from frame ∷ []) (demanded s before from.0 frame) in
    let at_now = goes_on s before now (none_more before (n.Got from frame ∷ []) refl) running_now running e in
    let at_turn = goes_on s now (now ++ demanded s before from.0 frame)
    (none_more now (demanded s before from.0 frame) (sent_none (demanded s before from.0 frame) (as_sent (demanded s before from.0 frame) wanted))) running_turn running_now at_now in
    let at_whole : EndsWell s (before ++ turn) = subst (EndsWell s) whole at_turn in
    subst (EndsWell s) (append_assoc before turn (closing s (before ++ turn))) (closes_well s k (before ++ turn) some (ap is_stopped (sym whole) ∙ running_turn) at_whole)

running_retune : (s : Setup) (j : List Noted) (k e : ℕ) → retune_refusal_of s j k e ≡ None → is_stopped j ≡ false
unfolding retune_refusal_of
running_retune s j k e none =
    (if_none (is_stopped j) retune.AfterStop (if is_open s j then Some retune.RoundOpen else (if not (is_k k s.objects) then Some retune.BadK else (if not (nat_le e (2 ^ 100)) then Some retune.BadEpsilon else None))) none).0

tuned_running : (k : ℕ) (epsilon : ℤ) (entries : List Noted) → AreWanted entries → is_stopped (n.Tuned k epsilon ∷ entries) ≡ false
unfolding is_stopped
tuned_running k epsilon entries w = no_stop entries w

tuned_turn : (s : Setup) (before : List Noted) (k e : ℕ) (epsilon : ℤ) → retune_refusal_of s before k e ≡ None → EndsWell s before → EndsWell s (before ++ turn_of s before (n.Tuned k epsilon))
unfolding turn_of
tuned_turn s before k e epsilon none h =
    let asked = wide_collects s (rounds s before + 1) in
    let wanted = collects_are_wanted (rounds s before + 1) (objects s.objects) (monitors s) in
    let running = running_retune s before k e none in
    goes_on s before (before ++ n.Tuned k epsilon ∷ asked)
    (none_more before (n.Tuned k epsilon ∷ asked) (sent_none asked (as_sent asked wanted)))
    (is_stopped-append before (n.Tuned k epsilon ∷ asked) ∙ ap (λ b. b || is_stopped (n.Tuned k epsilon ∷ asked)) running ∙ tuned_running k epsilon asked wanted) running h

every_turn : (s : Setup) (k : ℕ) → s.monitors ≡ suc k → (before : List Noted) (input : Noted) → IsAccepted s before input → EndsWell s before → EndsWell s (before ++ turn_of s before input)
every_turn s k some before (n.Got from frame) accepted h = got_turn s k before from frame some accepted.2 h
every_turn s k some before (n.Sent to frame) accepted h = absurd accepted
every_turn s k some before (n.Published publication) accepted h = absurd accepted
every_turn s k some before (n.Tuned q epsilon) accepted h = tuned_turn s before q accepted.0 epsilon accepted.2 h

opened_well : (o : Opening) → EndsWell o.settings (opened o)
opened_well o =
    let rows = enumerate_from 1 o.factors in
    let wanted = batch_wanted (λ (p : ℕ × List (ℕ × ℤ)). p.0) (λ p. f.Assign 1 o.members p.1) rows (λ _. refl) in
    record {
      going = λ _. subst AreNotLast (sym (sent_none (opened o) (as_sent (opened o) wanted))) tt;
      ended = λ is. absurd (true≢false (sym is ∙ no_stop (opened o) wanted));
    }

pub legal_ends : (o : Opening) (k : ℕ) → o.settings.monitors ≡ suc k → (j : List Noted) → IsLegal o j → EndsWell o.settings j
legal_ends o k some j legal = legal_carries o (EndsWell o.settings) (record { turn = every_turn o.settings k some }) (opened_well o) j legal

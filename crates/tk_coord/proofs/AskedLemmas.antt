-- The Collects that open a round over a journal in which none is open.
use Rattle.std.proofs.Common.{◌≡◌, ℕ, suc, true, false, not, ◌+◌, ◌≤◌, ◌<◌, ◌==◌, List, [], ◌∷◌, ◌++◌, Option, Bool, zero, Some, None, refl, sym, ap, ◌∙◌, subst, arith}
use Rattle.std.specs.Prelude.{ℤ, is_some, filter, if◌then◌else◌}
use Rattle.std.specs.List.{range_with_len}
use Rattle.std.proofs.lemmas.Bool.{eq-eqb}
use Rattle.tk_base.specs.Objects.{objects, is_in}
use Rattle.tk_base.specs.Settings.{Setup}
use Rattle.tk_base.specs.declared.ids.Mon.{Mon}
use Rattle.tk_frames.specs.declared.frame.Frame.{Frame}
use Rattle.tk_frames.specs.declared.frame.Frame.TheVariants as f
use Rattle.tk_alloc.specs.declared.reported.Reported.{Reported}
use Rattle.tk_journal.specs.Readings.{monitors, assigns_sent, answer_of, last_round, asked_of, is_open}
use Rattle.tk_journal.specs.Deciding.{answered_report}
use Rattle.tk_journal.specs.Laws.{AreRoundsCounted, IsMonitor}
use Rattle.tk_journal.specs.Turns.{collects, wide_collects, is_wide, rounds}
use Rattle.tk_journal.specs.Refusal.{refusal_of}
use Rattle.tk_journal.specs.declared.noted.Noted.{Noted}
use Rattle.tk_journal.proofs.Pieces.{got_round}
use Rattle.tk_journal.proofs.Batches.{collects_round}
use Rattle.tk_journal.proofs.Counting.{AreCounted, counted_got}
use Rattle.tk_journal.proofs.LawLemmas.{one_less}
use Rattle.tk_journal.proofs.Orderly.{IsOrderly, others_of}
use Rattle.tk_journal.proofs.GrowLemmas.{asks_open}
use Rattle.tk_journal.proofs.Sound.{new_asked}
use Rattle.tk_journal.proofs.SoundLemmas.{collects_wide}
use Rattle.tk_journal.proofs.Turning.{closed_got}
use Rattle.tk_journal.proofs.FirmTurns.{no_other}
use Rattle.tk_coord.specs.declared.round.Round.{Round}
use Rattle.tk_coord.specs.Steps.{with_got, asked_mons, is_opener, IsAsked}
use Rattle.tk_coord.proofs.RangeLemmas.{one_fails}
use Rattle.tk_coord.proofs.TellLemmas.{fresh_answered}

-- the counts of rounds, as the laws say them
pub rounds_counted : (s : Setup) (j : List Noted) → AreCounted s j → AreRoundsCounted s j
rounds_counted s j c = record { last = c.last; asked = c.asked; values = c.values }

-- ---- a round is open

-- the first of some numbers of a range is one of them
first_by : (b : Bool) (a k q : ℕ) (xs rest : List ℕ) → ((r : List ℕ) → xs ≡ q ∷ r → (a + 1 ≤ q) × (q < a + 1 + k)) → (if b then a ∷ xs else xs) ≡ q ∷ rest → (a ≤ q) × (q < a + suc k)
first_by true a k q xs rest later is = let e : a ≡ q = cc in (omega (arith, e), omega (arith, e))
first_by false a k q xs rest later is = let r = later rest is in let low = r.0 in let high = r.1 in (omega (arith, low), omega (arith, high))

-- the first of a filtered range is within the range
first_within : (p : ℕ → Bool) (a k q : ℕ) (rest : List ℕ) → filter p (range_with_len a k) ≡ q ∷ rest → (a ≤ q) × (q < a + k)
first_within p a zero q rest is = cc
first_within p a (suc k) q rest is = first_by (p a) a k q (filter p (range_with_len (a + 1) k)) rest (λ r there. first_within p (a + 1) k q r there) is

-- the Collects of a new round open it
pub asked_open : (s : Setup) (now entries : List Noted) (round : Round) (opener : Option Reported) → AreCounted s now → IsAsked s now entries round opener → is_open s (now ++ entries) ≡ true
asked_open s now entries round opener counted a =
    let some = a.some in
    let first = first_within (λ mon. not (is_opener opener mon)) 1 s.monitors some.0 some.1 some.2 in
    let range : IsMonitor s some.0 = record { from_one = first.0; within = (let high = first.1 in omega (arith, high)) } in
    ap (λ xs. is_open s (now ++ xs)) (a.sends ∙ ap (collects round.number round.asked) some.2) ∙ asks_open s now round.number round.asked some.0 some.1 range counted a.new

-- ---- a wide round

-- where all are asked, nobody is left out
keep_all : (xs : List ℕ) → filter (λ _. true) xs ≡ xs
keep_all [] = refl
keep_all (x ∷ xs) = ap (λ ys. x ∷ ys) (keep_all xs)

-- whom the Collects of a new round ask
asked_now : (s : Setup) (j : List Noted) (round : ℕ) (asked mons : List ℕ) (q : ℕ) (rest : List ℕ) (mon : ℕ) → mons ≡ q ∷ rest → AreCounted s j → last_round j < round
    → is_some (asked_of (last_round (j ++ collects round asked mons)) mon (j ++ collects round asked mons)) ≡ is_some (if is_in mons mon then Some asked else None)
asked_now s j round asked mons q rest mon some c new =
    let after = j ++ collects round asked mons in
    let last : last_round after ≡ round = ap (λ xs. last_round (j ++ collects round asked xs)) some ∙ collects_round j round asked q rest in
    ap (λ r. is_some (asked_of r mon after)) last ∙ ap is_some (new_asked s j round asked mons mon c new)

-- the Collects of a wide round, over all objects to every monitor
pub wide_is_asked : (s : Setup) (now : List Noted) (number : ℕ) → 0 < s.monitors → is_open s now ≡ false → AreCounted s now → last_round now < number
    → IsAsked s now (wide_collects s number) (record { number = number; waiting = true; wide = true; asked = objects s.objects }) None
wide_is_asked s now number some closed c new =
    let k = one_less s.monitors some in
    let mons : monitors s ≡ 1 ∷ range_with_len (1 + 1) k.0 = ap (range_with_len 1) k.1 in
    let all : asked_mons s None ≡ monitors s = keep_all (monitors s) in
    record {
      sends = ap (collects number (objects s.objects)) (sym all);
      some = (1, range_with_len (1 + 1) k.0, all ∙ mons);
      closed = closed;
      counted = rounds_counted s now c;
      new = new;
      waiting = refl;
      wide = sym (collects_wide s now number k.0 k.1 c new);
      report = λ r is. cc;
    }

-- ---- a full round

-- a round that does not ask a monitor is not wide
opens_full : (s : Setup) (j : List Noted) (round : ℕ) (asked mons : List ℕ) (q : ℕ) (rest : List ℕ) (mon : ℕ) → mons ≡ q ∷ rest
    → IsMonitor s mon → is_in mons mon ≡ false → AreCounted s j → last_round j < round
    → is_wide s (j ++ collects round asked mons) ≡ false
unfolding is_wide
opens_full s j round asked mons q rest mon some m out c new =
    let after = j ++ collects round asked mons in
    one_fails (λ p. is_some (asked_of (last_round after) p after)) 1 s.monitors mon m.from_one (let w = m.within in omega (arith, w))
    (asked_now s j round asked mons q rest mon some c new ∙ ap (λ b. is_some (if b then Some asked else None)) out)

-- the Collects of a full round, to every monitor but the one with whose Report it begins
pub full_is_asked : (s : Setup) (now : List Noted) (number : ℕ) (asked : List ℕ) (report : Reported) → 1 < s.monitors → is_open s now ≡ false → AreCounted s now → last_round now < number
    → IsMonitor s report.mon.0 → answered_report report.mon.0 (answer_of report.mon.0 now) ≡ Some report
    → IsAsked s now (collects number asked (filter (λ mon. not (mon == report.mon.0)) (monitors s))) (record { number = number; waiting = true; wide = false; asked = asked }) (Some report)
full_is_asked s now number asked report more closed c new m answer =
    let k = one_less s.monitors (omega (arith, more)) in
    let is = k.1 in
    let two = one_less k.0 (omega (arith, more, is)) in
    let others = others_of two.0 report.mon.0 in
    let mons : filter (λ mon. not (mon == report.mon.0)) (monitors s) ≡ others.0 ∷ others.1 =
    ap (λ d. filter (λ mon. not (mon == report.mon.0)) (range_with_len 1 d)) (k.1 ∙ ap suc two.1) ∙ others.2 in
    record {
      sends = refl;
      some = (others.0, others.1, mons);
      closed = closed;
      counted = rounds_counted s now c;
      new = new;
      waiting = refl;
      wide = sym (opens_full s now number asked (filter (λ mon. not (mon == report.mon.0)) (monitors s)) others.0 others.1 report.mon.0 mons m (no_other 1 s.monitors report.mon.0) c new);
      report = λ r same. let e : report ≡ r = cc in subst (λ (x : Reported). IsMonitor s x.mon.0 × (answered_report x.mon.0 (answer_of x.mon.0 now) ≡ Some x)) e (m, answer);
    }

-- ---- where a round can open

-- a journal in which no round is open, with the numbers of rounds in order up to one
pub record CanAsk (s : Setup) (now : List Noted) (most : ℕ) : Type 0 where
  pub closed : is_open s now ≡ false
  pub counted : AreCounted s now
  pub last : last_round now ≤ most

-- a frame that is taken while no round is open opens none
pub can_ask : (s : Setup) (j : List Noted) (mon : Mon) (frame : Frame) → IsOrderly s j → refusal_of s j mon.0 frame ≡ None → is_open s j ≡ false → CanAsk s (with_got j mon frame) (rounds s j)
can_ask s j mon frame o none closed = record {
  closed = closed_got s j mon frame closed;
  counted = counted_got s j mon frame none o.counted;
  last = let r = got_round j mon frame in let l = o.counted.last in omega (arith, r, l);
}

-- Values that end a round leave a journal in which one can open
pub can_ask_again : (s : Setup) (j : List Noted) (mon : Mon) (frame : Frame) → IsOrderly s j → refusal_of s j mon.0 frame ≡ None → is_open s (with_got j mon frame) ≡ false
    → CanAsk s (with_got j mon frame) (rounds s (with_got j mon frame))
can_ask_again s j mon frame o none closed =
    let counted = counted_got s j mon frame none o.counted in
    record { closed = closed; counted = counted; last = counted.last }

-- a fresh Report is what its monitor is answered with
pub fresh_report : (j : List Noted) (mon : Mon) (seq : ℕ) (border : ℤ) (failed : List ℕ) (values : List (ℕ × ℤ)) → seq ≡ assigns_sent mon.0 j
    → answered_report mon.0 (answer_of mon.0 (with_got j mon (f.Report seq border failed values))) ≡ Some (record { mon = mon; values = values; border = border })
fresh_report j mon seq border failed values fresh =
    ap (answered_report mon.0) (fresh_answered j mon (f.Report seq border failed values) (eq-eqb seq (assigns_sent mon.0 j) fresh))

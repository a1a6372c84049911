-- What the coordinator sends: Assigns, Collects, and at most one Stop to each; so a down link holds few frames.
use Rattle.tk_frames.specs.declared.frame.Frame.TheVariants as f
use Rattle.tk_journal.specs.declared.noted.Noted.TheVariants as n
use Rattle.std.proofs.Common.{◌≡◌, ℕ, suc, ◌+◌, ◌≤◌, ◌==◌, ◌||◌, Bool, true, false, List, [], ◌∷◌, ◌++◌, length, map, Some, None, refl, sym, ap, ◌∙◌, arith, append_assoc}
use Rattle.std.specs.Prelude.{ℤ, filter_map, if◌then◌else◌}
use Rattle.std.specs.List.{enumerate_from, cons_option, list_any}
use Rattle.std.proofs.lemmas.Bool.{true≢false}
use Rattle.tk_base.specs.Objects.{objects, is_in}
use Rattle.tk_base.specs.Settings.{Setup}
use Rattle.tk_base.specs.declared.ids.Mon.{Mon}
use Rattle.tk_base.proofs.BoolLemmas.{neither_right}
use Rattle.tk_frames.specs.Assigns.{assign_in}
use Rattle.tk_frames.specs.declared.frame.Frame.{Frame}
use Rattle.tk_journal.specs.Laws.{IsMonitor, IsSetUp}
use Rattle.tk_journal.specs.Legal.{Opening, IsAccepted, IsLegal, turn_of}
use Rattle.tk_journal.specs.Links.{frames_to}
use Rattle.tk_journal.specs.Publishing.{closing, is_due, is_last, publication_at, stops}
use Rattle.tk_journal.specs.Readings.{assigns_sent, is_stop, is_stopped, monitors}
use Rattle.tk_journal.specs.Turns.{collects, demanded, rounds, wide_collects}
use Rattle.tk_journal.specs.declared.noted.Noted.{Noted}
use Rattle.tk_journal.specs.declared.publication.Publication.{Publication}
use Rattle.tk_journal.proofs.Appends.{frames_to-append}
use Rattle.tk_journal.proofs.Pieces.{batch}
use Rattle.tk_journal.proofs.Batches.{named}
use Rattle.tk_journal.proofs.Orderly.{IsOrderly, Row, sends, orderly_same}
use Rattle.tk_journal.proofs.Same.{same_closing}
use Rattle.tk_journal.proofs.Turning.{orderly_demanded}
use Rattle.tk_journal.proofs.LegalLemmas.{FrameTurn, by_parts, legal_carries, opened_orderly, orderly_parts}
use Rattle.tk_journal.proofs.LawLemmas.{one_less}
use Rattle.tk_frames.specs.Carried.{tally, is_collect}
use Rattle.tk_journal.proofs.AskedLemmas.{named_once, named_times}
use Rattle.tk_frames.proofs.CarriedLemmas.{tally-append}
use Rattle.tk_journal.proofs.Accepted.{accepted_kind}
use Rattle.tk_journal.proofs.GrowLemmas.{Grows, grows, range_rises, with_got}
use Rattle.tk_journal.proofs.GrowLemmas.Grows.{Nothing, ToOne, ToAll, Asks}

abbrev pub is_other : Frame → Bool
is_other (f.Assign seq members changes) = false
is_other (f.Collect round asked) = false
is_other f.Stop = false
is_other frame = true

abbrev pub is_halt : Frame → Bool
is_halt f.Stop = true
is_halt frame = false

abbrev pub flag : Bool → ℕ
flag b = if b then 1 else 0

-- every frame is one of four kinds
pub counted : (xs : List Frame) → length xs ≡ length (filter_map assign_in xs) + tally is_collect xs + tally is_halt xs + tally is_other xs
counted [] = omega arith
counted (f.Assign seq members changes ∷ xs) = let e = counted xs in omega (arith, e)
counted (f.Collect round asked ∷ xs) = let e = counted xs in omega (arith, e)
counted (f.Stop ∷ xs) = let e = counted xs in omega (arith, e)
counted (f.Hello run version mon ∷ xs) = let e = counted xs in omega (arith, e)
counted (f.Report seq border failed values ∷ xs) = let e = counted xs in omega (arith, e)
counted (f.Values round seq border values ∷ xs) = let e = counted xs in omega (arith, e)
counted (f.Settled seq last places ∷ xs) = let e = counted xs in omega (arith, e)

-- ---- kinds that turns do not send

none_one : (p : Frame → Bool) (own : Bool) (frame : Frame) (frames : List Frame) → p frame ≡ false → tally p (cons_option (if own then Some frame else None) frames) ≡ tally p frames
none_one p true frame frames none = let e = ap flag none in omega (arith, e)
none_one p false frame frames none = refl

none_batch : {A : Type 0} (p : Frame → Bool) (mon : ℕ) (to : A → ℕ) (frame : A → Frame) (rows : List A) → ((d : A) → p (frame d) ≡ false) → tally p (frames_to mon (batch to frame rows)) ≡ 0
none_batch p mon to frame [] none = refl
none_batch p mon to frame (d ∷ rows) none = none_one p (to d == mon) (frame d) (frames_to mon (batch to frame rows)) (none d) ∙ none_batch p mon to frame rows none

to-append : (p : Frame → Bool) (mon : ℕ) (a b : List Noted) → tally p (frames_to mon (a ++ b)) ≡ tally p (frames_to mon a) + tally p (frames_to mon b)
to-append p mon a b = ap (tally p) (frames_to-append mon a b) ∙ tally-append p (frames_to mon a) (frames_to mon b)

-- a kind that is neither an Assign nor a Collect
record IsNeither (p : Frame → Bool) : Type 0 where
  assign : (seq : ℕ) (members : List ℕ) (changes : List (ℕ × ℤ)) → p (f.Assign seq members changes) ≡ false
  collect : (round : ℕ) (asked : List ℕ) → p (f.Collect round asked) ≡ false

grown_none : (p : Frame → Bool) → IsNeither p → (s : Setup) (before : List Noted) (from : Mon) (frame : Frame) (after : List Noted) (mon : ℕ) → Grows s before from frame after → tally p (frames_to mon after) ≡ tally p (frames_to mon before)
grown_none p k s before from frame after mon (Nothing e same resting) = let a = ap (λ j. tally p (frames_to mon j)) e in let b = to-append p mon before (n.Got from frame ∷ []) in omega (arith, a, b)
grown_none p k s before from frame after mon (ToOne members row border failed values fresh' node was closed e) =
    let now = with_got before from frame in
    let a = ap (λ j. tally p (frames_to mon j)) e in let b = to-append p mon before (n.Got from frame ∷ []) in let c = to-append p mon now (sends now members (row ∷ [])) in
    let d = none_batch p mon (λ (x : Row). x.0) (named (λ x. assigns_sent x.0 now + 1) members (λ x. x.1)) (row ∷ []) (λ x. k.assign (assigns_sent x.0 now + 1) members x.1) in
    omega (arith, a, b, c, d)
grown_none p k s before from frame after mon (ToAll members rows cause nodes closed e) =
    let now = with_got before from frame in
    let a = ap (λ j. tally p (frames_to mon j)) e in let b = to-append p mon before (n.Got from frame ∷ []) in let c = to-append p mon now (sends now members rows) in
    let d = none_batch p mon (λ (x : Row). x.0) (named (λ x. assigns_sent x.0 now + 1) members (λ x. x.1)) rows (λ x. k.assign (assigns_sent x.0 now + 1) members x.1) in
    omega (arith, a, b, c, d)
grown_none p k s before from frame after mon (Asks round asked q mons rising closed new e opened') =
    let now = with_got before from frame in
    let a = ap (λ j. tally p (frames_to mon j)) e in let b = to-append p mon before (n.Got from frame ∷ []) in let c = to-append p mon now (collects round asked (q ∷ mons)) in
    let d = none_batch p mon (λ (x : ℕ). x) (λ _. f.Collect round asked) (q ∷ mons) (λ x. k.collect round asked) in
    omega (arith, a, b, c, d)

closing_by : (p : Frame → Bool) (s : Setup) (mon : ℕ) (due last : Bool) (x : Publication) (most : ℕ) → tally p (frames_to mon (stops s)) ≤ most → tally p (frames_to mon (if due then n.Published x ∷ (if last then stops s else []) else [])) ≤ most
closing_by p s mon true true x most h = h
closing_by p s mon true false x most h = omega arith
closing_by p s mon false last x most h = omega arith

closing_most : (p : Frame → Bool) (s : Setup) (j : List Noted) (mon most : ℕ) → tally p (frames_to mon (stops s)) ≤ most → tally p (frames_to mon (closing s j)) ≤ most
unfolding closing
closing_most p s j mon most h = closing_by p s mon (is_due s j) (is_last s j) (publication_at s j) most h

-- ---- nothing but these kinds

other_neither : IsNeither is_other
other_neither = record { assign = λ seq members changes. refl; collect = λ round asked. refl }

record IsKind (s : Setup) (j : List Noted) : Type 0 where
  order : IsOrderly s j
  kinds : (mon : ℕ) → tally is_other (frames_to mon j) ≡ 0

kind_parts : (s : Setup) (k : ℕ) → s.monitors ≡ suc k → FrameTurn s (IsKind s)
kind_parts s k some = record {
  demands = λ before from frame range none h. record {
    order = orderly_demanded s before from frame k some range none h.order;
    kinds = λ mon. grown_none is_other other_neither s before from frame (with_got before from frame ++ demanded s before from.0 frame) mon (grows s before from frame k some range none h.order) ∙ h.kinds mon;
  };
  closes = λ j h. record {
    order = orderly_same s j (j ++ closing s j) (same_closing s j) h.order;
    kinds = λ mon.
        let z = none_batch is_other mon (λ (m : ℕ). m) (λ _. f.Stop) (monitors s) (λ _. refl) in
        let c = closing_most is_other s j mon 0 (omega (arith, z)) in
        let a = to-append is_other mon j (closing s j) in
        let o = h.kinds mon in
        omega (arith, a, c, o);
  };
  tunes = λ before q epsilon accepted h. record {
    order = (orderly_parts s k some).tunes before q epsilon accepted h.order;
    kinds = λ mon.
        let mid = before ++ n.Tuned q epsilon ∷ [] in
        let a = to-append is_other mon mid (wide_collects s (rounds s before + 1)) in
        let b = to-append is_other mon before (n.Tuned q epsilon ∷ []) in
        let c = none_batch is_other mon (λ (x : ℕ). x) (λ _. f.Collect (rounds s before + 1) (objects s.objects)) (monitors s) (λ _. refl) in
        let o = h.kinds mon in
        omega (arith, a, b, c, o);
  };
}

pub only_three_kinds : (o : Opening) (j : List Noted) (mon : ℕ) → IsSetUp o → IsLegal o j → tally is_other (frames_to mon j) ≡ 0
only_three_kinds o j mon set legal =
    let s = o.settings in
    let k = one_less s.monitors set.limits.some_monitor in
    (legal_carries o (IsKind s) (by_parts s (IsKind s) (kind_parts s k.0 k.1)) (record {
      order = opened_orderly o k.0 k.1 set.factors;
      kinds = λ m. none_batch is_other m (λ (p : ℕ × List (ℕ × ℤ)). p.0) (named (λ _. 1) o.members (λ p. p.1)) (enumerate_from 1 o.factors) (λ p. refl);
    }) j legal).kinds mon

pub flag_most : (b : Bool) → flag b ≤ 1
flag_most true = omega arith
flag_most false = omega arith

halt_one : (own : Bool) (frames : List Frame) → tally is_halt (cons_option (if own then Some f.Stop else None) frames) ≡ flag own + tally is_halt frames
halt_one true frames = omega arith
halt_one false frames = omega arith

-- ---- at most one Stop

halt_neither : IsNeither is_halt
halt_neither = record { assign = λ seq members changes. refl; collect = λ round asked. refl }

or_left : (a b : Bool) → (a || b) ≡ false → a ≡ false
or_left true b h = absurd (true≢false h)
or_left false b h = refl

halt_first : (mon : ℕ) (to : Mon) (frame : Frame) (frames : List Frame) → is_stop (n.Sent to frame) ≡ false → tally is_halt frames ≡ 0 → tally is_halt (cons_option (if to.0 == mon then Some frame else None) frames) ≡ 0
halt_first mon to (f.Assign seq members changes) frames live h = none_one is_halt (to.0 == mon) (f.Assign seq members changes) frames refl ∙ h
halt_first mon to (f.Collect round asked) frames live h = none_one is_halt (to.0 == mon) (f.Collect round asked) frames refl ∙ h
halt_first mon to (f.Hello run version m) frames live h = none_one is_halt (to.0 == mon) (f.Hello run version m) frames refl ∙ h
halt_first mon to (f.Report seq border failed values) frames live h = none_one is_halt (to.0 == mon) (f.Report seq border failed values) frames refl ∙ h
halt_first mon to (f.Values round seq border values) frames live h = none_one is_halt (to.0 == mon) (f.Values round seq border values) frames refl ∙ h
halt_first mon to (f.Settled seq last places) frames live h = none_one is_halt (to.0 == mon) (f.Settled seq last places) frames refl ∙ h
halt_first mon to f.Stop frames live h = absurd (true≢false live)

pub unstopped : (mon : ℕ) (j : List Noted) → is_stopped j ≡ false → tally is_halt (frames_to mon j) ≡ 0
unfolding is_stopped
unstopped mon [] live = refl
unstopped mon (n.Got from frame ∷ j) live = unstopped mon j live
unstopped mon (n.Sent to frame ∷ j) live = halt_first mon to frame (frames_to mon j) (or_left (is_stop (n.Sent to frame)) (list_any is_stop j) live) (unstopped mon j (neither_right (is_stop (n.Sent to frame)) (list_any is_stop j) live))
unstopped mon (n.Published p ∷ j) live = unstopped mon j live
unstopped mon (n.Tuned k epsilon ∷ j) live = unstopped mon j live

halted_once : (mon : ℕ) (mons : List ℕ) → tally is_halt (frames_to mon (map (λ m. n.Sent (record { 0 = m }) f.Stop) mons)) ≡ named_times mons mon
halted_once mon [] = refl
halted_once mon (m ∷ mons) = let a = halt_one (m == mon) (frames_to mon (map (λ q. n.Sent (record { 0 = q }) f.Stop) mons)) in let b = halted_once mon mons in omega (arith, a, b)

stops_once : (s : Setup) (mon : ℕ) → tally is_halt (frames_to mon (stops s)) ≤ 1
stops_once s mon = let a = halted_once mon (monitors s) in let b = named_once 0 mon (monitors s) (range_rises s.monitors) in let c = flag_most (is_in (monitors s) mon) in omega (arith, a, b, c)

abbrev OneStop : List Noted → Type 0
OneStop j = (mon : ℕ) → tally is_halt (frames_to mon j) ≤ 1

record IsHalting (s : Setup) (j : List Noted) : Type 0 where
  order : IsOrderly s j
  once : OneStop j

halting_turn : (s : Setup) (k : ℕ) → s.monitors ≡ suc k → (before : List Noted) (input : Noted) → IsAccepted s before input → IsHalting s before → IsHalting s (before ++ turn_of s before input)
unfolding turn_of
halting_turn s k some before (n.Got from frame) accepted h =
    let range : IsMonitor s from.0 = record { from_one = accepted.0; within = accepted.1 } in
    let turn = n.Got from frame ∷ demanded s before from.0 frame in
    let order = (by_parts s (IsOrderly s) (orderly_parts s k some)).turn before (n.Got from frame) accepted h.order in
    let whole : with_got before from frame ++ demanded s before from.0 frame ≡ before ++ turn = append_assoc before (n.Got from frame ∷ []) (demanded s before from.0 frame) in
    let live = (accepted_kind s before from.0 frame accepted.2).0 in
    record {
      order = order;
      once = λ mon.
          let a = unstopped mon before live in
          let b = grown_none is_halt halt_neither s before from frame (with_got before from frame ++ demanded s before from.0 frame) mon (grows s before from frame k some range accepted.2 h.order) in
          let b' : tally is_halt (frames_to mon (before ++ turn)) ≡ tally is_halt (frames_to mon (with_got before from frame ++ demanded s before from.0 frame)) = ap (λ j. tally is_halt (frames_to mon j)) (sym whole) in
          let c = closing_most is_halt s (before ++ turn) mon 1 (stops_once s mon) in
          let d = to-append is_halt mon (before ++ turn) (closing s (before ++ turn)) in
          let e : tally is_halt (frames_to mon (before ++ (turn ++ closing s (before ++ turn)))) ≡ tally is_halt (frames_to mon (before ++ turn ++ closing s (before ++ turn))) = ap (λ j. tally is_halt (frames_to mon j)) (sym (append_assoc before turn (closing s (before ++ turn)))) in
          omega (arith, a, b, b', c, d, e);
    }
halting_turn s k some before (n.Tuned q epsilon) accepted h = record {
  order = (by_parts s (IsOrderly s) (orderly_parts s k some)).turn before (n.Tuned q epsilon) accepted h.order;
  once = λ mon.
      let a = to-append is_halt mon before (n.Tuned q epsilon ∷ wide_collects s (rounds s before + 1)) in
      let c = none_batch is_halt mon (λ (x : ℕ). x) (λ _. f.Collect (rounds s before + 1) (objects s.objects)) (monitors s) (λ _. refl) in
      let o = h.once mon in
      omega (arith, a, c, o);
}
halting_turn s k some before (n.Sent to frame) accepted h = absurd accepted
halting_turn s k some before (n.Published p) accepted h = absurd accepted

pub one_stop : (o : Opening) (j : List Noted) (mon : ℕ) → IsSetUp o → IsLegal o j → tally is_halt (frames_to mon j) ≤ 1
one_stop o j mon set legal =
    let s = o.settings in
    let k = one_less s.monitors set.limits.some_monitor in
    (legal_carries o (IsHalting s) (record { turn = halting_turn s k.0 k.1 }) (record {
      order = opened_orderly o k.0 k.1 set.factors;
      once = λ m. let z = none_batch is_halt m (λ (p : ℕ × List (ℕ × ℤ)). p.0) (named (λ _. 1) o.members (λ p. p.1)) (enumerate_from 1 o.factors) (λ p. refl) in omega (arith, z);
    }) j legal).once mon

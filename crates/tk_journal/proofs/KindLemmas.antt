-- The streak and the number of rounds are readings of the turns of a journal.
use Rattle.tk_frames.specs.declared.frame.Frame.TheVariants as f
use Rattle.tk_journal.specs.declared.noted.Noted.TheVariants as n
use Rattle.std.proofs.Common.{◌≡◌, ℕ, suc, zero, ◌+◌, ◌==◌, ◌&&◌, ℤ, Bool, true, false, not, List, [], ◌∷◌, ◌++◌, map, refl, sym, ap, ◌∙◌, arith, append_assoc, append-nil}
use Rattle.std.specs.Prelude.{count_by, filter, fold, if◌then◌else◌}
use Rattle.std.specs.List.{enumerate_from, range_with_len}
use Rattle.std.proofs.lemmas.Bool.{eq-eqb, false≢true, true≢false}
use Rattle.std.proofs.lemmas.List.Sums.{sum_by-append}
use Rattle.tk_base.specs.Objects.{objects}
use Rattle.tk_base.specs.Pairs.{objects_of}
use Rattle.tk_base.specs.Settings.{Setup}
use Rattle.tk_base.specs.declared.ids.Mon.{Mon}
use Rattle.tk_frames.specs.declared.frame.Frame.{Frame}
use Rattle.tk_alloc.specs.declared.reported.Reported.{Reported}
use Rattle.tk_journal.specs.Deciding.{Decided, is_within_limit, reports_at}
use Rattle.tk_journal.specs.Laws.{IsSetUp}
use Rattle.tk_journal.specs.Legal.{IsAccepted, IsLegal, Opening, inputs_of, opened, turn_of}
use Rattle.tk_journal.specs.Publishing.{closing}
use Rattle.tk_journal.specs.Readings.{assigns_sent, is_calm, is_open, monitors}
use Rattle.tk_journal.specs.Turns.{assigns, collects, demanded, failures_after, full_at, full_end, is_lone_full, is_wide, kind_of, report_demands, reported, rounds, streak, unless_calm, values_demand, wide_at, wide_collects}
use Rattle.tk_journal.specs.declared.turn.TurnKind.TheVariants.{Tune, Stale, Note, Short, Wide, Full, End}
use Rattle.tk_journal.specs.Walks.{walk}
use Rattle.tk_journal.specs.declared.noted.Noted.{Noted}
use Rattle.tk_journal.proofs.Appends.{walk-append}
use Rattle.tk_journal.proofs.Counting.{collects_count, got_count, named_count}
use Rattle.tk_journal.proofs.LawLemmas.{one_less}
use Rattle.tk_journal.proofs.Orderly.{others_of}
use Rattle.tk_journal.proofs.Same.{same_closing}
use Rattle.tk_journal.proofs.StreakLemmas.{streak_got, kept}
use Rattle.tk_journal.proofs.WholeLemmas.{by_turns, turn_is}
use Rattle.tk_journal.specs.declared.turn.Turn.{Turn}
use Rattle.tk_journal.specs.declared.turn.TurnKind.{TurnKind}
use Rattle.tk_journal.specs.Kinds.{counts_of, failed_since, is_full_kind, report_widens, streak_of, turned, turns_of, values_widen, opens_wide}

abbrev one : Bool → ℕ
one b = if b then 1 else 0

-- ---- the turns over one more turn

abbrev pub goes : Setup → List Noted → List Turn → Noted → List Turn
goes s before turns e = turns ++ turned s before e

no_turns : (s : Setup) (front : List Noted) (acc : List Turn) (rest : List Noted) → inputs_of rest ≡ [] → walk (goes s) front acc rest ≡ acc
no_turns s front acc [] none = refl
no_turns s front acc (n.Got from frame ∷ rest) none = absurd (cc)
no_turns s front acc (n.Sent to frame ∷ rest) none = no_turns s (front ++ n.Sent to frame ∷ []) (acc ++ []) rest none ∙ append-nil acc
no_turns s front acc (n.Published publication ∷ rest) none = no_turns s (front ++ n.Published publication ∷ []) (acc ++ []) rest none ∙ append-nil acc
no_turns s front acc (n.Tuned k epsilon ∷ rest) none = absurd (cc)

pub turns_go : (s : Setup) (before : List Noted) (input : Noted) → IsAccepted s before input → turns_of s (before ++ turn_of s before input) ≡ turns_of s before ++ turned s before input
unfolding turns_of
turns_go s before input accepted =
    let t = turn_is s before input accepted in
    ap (λ xs. walk (goes s) [] [] (before ++ xs)) t.is
    ∙ walk-append (goes s) [] [] before (input ∷ t.rest)
    ∙ no_turns s (before ++ input ∷ []) (walk (goes s) [] [] before ++ turned s before input) t.rest t.none

opened_turns : (s : Setup) (members : List ℕ) (front : List Noted) (acc : List Turn) (rows : List (ℕ × List (ℕ × ℤ))) → walk (goes s) front acc (map (λ p. n.Sent (record { 0 = p.0 }) (f.Assign 1 members p.1)) rows) ≡ acc
opened_turns s members front acc [] = refl
opened_turns s members front acc (p ∷ rows) = opened_turns s members (front ++ n.Sent (record { 0 = p.0 }) (f.Assign 1 members p.1) ∷ []) (acc ++ []) rows ∙ append-nil acc

pub none_opened : (o : Opening) → turns_of o.settings (opened o) ≡ []
unfolding turns_of
none_opened o = opened_turns o.settings o.members [] [] (enumerate_from 1 o.factors)

-- ---- the streak

streak_tuned : (s : Setup) (before : List Noted) (k : ℕ) (epsilon : ℤ) (rest : List Noted) → inputs_of rest ≡ [] → streak s (before ++ n.Tuned k epsilon ∷ rest) ≡ (if is_calm s (before ++ n.Tuned k epsilon ∷ rest) then 0 else streak s before)
unfolding streak
streak_tuned s before k epsilon rest none =
    ap (λ c. unless_calm s (before ++ n.Tuned k epsilon ∷ rest) c)
    (walk-append (failures_after s) [] 0 before (n.Tuned k epsilon ∷ rest) ∙ kept s (before ++ n.Tuned k epsilon ∷ []) (unless_calm s before (walk (failures_after s) [] 0 before)) rest none)

abbrev nothing : ℕ
nothing = 0

zero_either : (b : Bool) → (if b then nothing else nothing) ≡ nothing
zero_either true = refl
zero_either false = refl

opened_kept : (s : Setup) (members : List ℕ) (front : List Noted) (count : ℕ) (rows : List (ℕ × List (ℕ × ℤ))) → walk (failures_after s) front count (map (λ p. n.Sent (record { 0 = p.0 }) (f.Assign 1 members p.1)) rows) ≡ count
opened_kept s members front count [] = refl
opened_kept s members front count (p ∷ rows) = opened_kept s members (front ++ n.Sent (record { 0 = p.0 }) (f.Assign 1 members p.1) ∷ []) count rows

streak_opened : (o : Opening) → streak o.settings (opened o) ≡ 0
unfolding streak
streak_opened o = ap (λ c. unless_calm o.settings (opened o) c) (opened_kept o.settings o.members [] 0 (enumerate_from 1 o.factors)) ∙ zero_either (is_calm o.settings (opened o))

adds : (fails : Bool) (count : ℕ) → count + (if fails then 1 else 0) ≡ (if fails then count + 1 else count)
adds true count = refl
adds false count = omega arith

streak_turn : (s : Setup) (before : List Noted) (input : Noted) → IsAccepted s before input → streak s (before ++ turn_of s before input) ≡ fold failed_since (streak s before) (turned s before input)
streak_turn s before (n.Got from frame) accepted =
    let t = turn_is s before (n.Got from frame) accepted in
    let fails = Rattle.tk_journal.specs.Turns.fails_at s before from.0 frame in
    ap (λ xs. streak s (before ++ xs)) t.is ∙ streak_got s before from frame t.rest t.none
    ∙ ap (λ c. if is_calm s (before ++ n.Got from frame ∷ t.rest) then 0 else c) (adds fails (streak s before))
    ∙ ap (λ xs. if is_calm s (before ++ xs) then 0 else (if fails then streak s before + 1 else streak s before)) (sym t.is)
streak_turn s before (n.Tuned k epsilon) accepted =
    let t = turn_is s before (n.Tuned k epsilon) accepted in
    ap (λ xs. streak s (before ++ xs)) t.is ∙ streak_tuned s before k epsilon t.rest t.none ∙ ap (λ xs. if is_calm s (before ++ xs) then 0 else streak s before) (sym t.is)
streak_turn s before (n.Sent to frame) accepted = absurd accepted
streak_turn s before (n.Published publication) accepted = absurd accepted

fold-append : (start : ℕ) (xs ys : List Turn) → fold failed_since start (xs ++ ys) ≡ fold failed_since (fold failed_since start xs) ys
fold-append start [] ys = refl
fold-append start (x ∷ xs) ys = fold-append (failed_since start x) xs ys

pub streak_read : (o : Opening) (j : List Noted) → IsLegal o j → streak o.settings j ≡ streak_of (turns_of o.settings j)
streak_read o j legal =
    let s = o.settings in
    by_turns o (λ xs. streak s xs ≡ streak_of (turns_of s xs))
    (λ before input accepted front h.
    streak_turn s before input accepted ∙ ap (λ c. fold failed_since c (turned s before input)) h ∙ sym (fold-append 0 (turns_of s before) (turned s before input)) ∙ ap streak_of (sym (turns_go s before input accepted)))
    (streak_opened o ∙ ap streak_of (sym (none_opened o))) j legal

-- ---- the rounds

assigns_rounds : (s : Setup) (now j : List Noted) (decided : Decided) → rounds s (now ++ assigns j decided) ≡ rounds s now
assigns_rounds s now j decided = named_count s now (λ d. d.0) (λ d. assigns_sent d.0 j + 1) decided.members (λ d. d.1) (Rattle.std.specs.Prelude.drop 1 decided.dealt)

wide_rounds : (s : Setup) (now : List Noted) (k round : ℕ) → s.monitors ≡ suc k → rounds s (now ++ wide_collects s round) ≡ round
wide_rounds s now k round some = ap (λ m. rounds s (now ++ collects round (objects s.objects) (range_with_len 1 m))) some ∙ collects_count s now round (objects s.objects) 1 (range_with_len (1 + 1) k)

others_rounds : (s : Setup) (now : List Noted) (k mon round : ℕ) (asked : List ℕ) → s.monitors ≡ suc k → (s.monitors == 1) ≡ false → rounds s (now ++ collects round asked (filter (λ m. not (m == mon)) (monitors s))) ≡ round
others_rounds s now zero mon round asked some lone = absurd (true≢false (sym (eq-eqb s.monitors 1 some) ∙ lone))
others_rounds s now (suc k) mon round asked some lone =
    let others = others_of k mon in
    ap (λ m. rounds s (now ++ collects round asked (filter (λ q. not (q == mon)) (range_with_len 1 m)))) some ∙ ap (λ xs. rounds s (now ++ collects round asked xs)) others.2 ∙ collects_count s now round asked others.0 others.1

end_rounds : (s : Setup) (now j : List Noted) (k next : ℕ) (decided : Decided) (within : Bool) → s.monitors ≡ suc k → next ≡ rounds s now + 1 → rounds s (now ++ (if within then assigns j decided else wide_collects s next)) ≡ rounds s now + one (not within)
end_rounds s now j k next decided true some is = let a = assigns_rounds s now j decided in omega (arith, a)
end_rounds s now j k next decided false some is = wide_rounds s now k next some ∙ is

lone_rounds : (s : Setup) (before now : List Noted) (k : ℕ) (report : Reported) (lone : Bool) → s.monitors ≡ suc k → (s.monitors == 1) ≡ lone → rounds s now ≡ (if lone then rounds s before + 1 else rounds s before)
    → rounds s (now ++ (if lone then full_end s before (rounds s before + 1 + 1) (report ∷ []) else collects (rounds s before + 1) (objects_of report.values) (filter (λ mon. not (mon == report.mon.0)) (monitors s))))
    ≡ rounds s before + 1 + one (lone && not (is_within_limit (full_at s before (report ∷ []))))
lone_rounds s before now k report true some lone count =
    let decided = full_at s before (report ∷ []) in
    let e = end_rounds s now before k (rounds s before + 1 + 1) decided (is_within_limit decided) some (omega (arith, count)) in
    omega (arith, e, count)
lone_rounds s before now k report false some lone count = let e = others_rounds s now k report.mon.0 (rounds s before + 1) (objects_of report.values) some lone in omega (arith, e)

none_more : (s : Setup) (now : List Noted) (c : ℕ) → rounds s now ≡ c → rounds s (now ++ []) ≡ c + 0 + 0
none_more s now c is = let e = ap (rounds s) (append-nil now) in omega (arith, e, is)

report_rounds : (s : Setup) (before now : List Noted) (k : ℕ) (report : Reported) (kind : TurnKind) → s.monitors ≡ suc k → rounds s now ≡ (if is_lone_full s kind then rounds s before + 1 else rounds s before)
    → rounds s (now ++ report_demands s before report kind) ≡ rounds s before + one (is_full_kind kind) + one (report_widens s before report kind)
report_rounds s before now k report Tune some count = none_more s now (rounds s before) count
report_rounds s before now k report Stale some count = none_more s now (rounds s before) count
report_rounds s before now k report Note some count = none_more s now (rounds s before) count
report_rounds s before now k report End some count = none_more s now (rounds s before) count
report_rounds s before now k report Short some count = let e = assigns_rounds s now before (Rattle.tk_journal.specs.Turns.short_at s before report) in omega (arith, e, count)
report_rounds s before now k report Wide some count = let e = wide_rounds s now k (rounds s before + 1) some in omega (arith, e)
report_rounds s before now k report Full some count = lone_rounds s before now k report (s.monitors == 1) some refl count

ended_rounds : (s : Setup) (now : List Noted) (k : ℕ) (wide : Bool) → s.monitors ≡ suc k
    → rounds s (now ++ (if wide then assigns now (wide_at s now (reports_at s now)) else full_end s now (rounds s now + 1) (reports_at s now))) ≡ rounds s now + one (not wide && not (is_within_limit (full_at s now (reports_at s now))))
ended_rounds s now k true some = let e = assigns_rounds s now now (wide_at s now (reports_at s now)) in omega (arith, e)
ended_rounds s now k false some = let decided = full_at s now (reports_at s now) in end_rounds s now now k (rounds s now + 1) decided (is_within_limit decided) some refl

values_rounds : (s : Setup) (before now : List Noted) (k : ℕ) (still : Bool) → s.monitors ≡ suc k → rounds s now ≡ (if is_lone_full s (if still then Note else End) then rounds s before + 1 else rounds s before)
    → rounds s (now ++ values_demand s now (if still then Note else End)) ≡ rounds s before + one (is_full_kind (if still then Note else End)) + one (values_widen s now (if still then Note else End))
values_rounds s before now k true some count = none_more s now (rounds s before) count
values_rounds s before now k false some count = let e = ended_rounds s now k (is_wide s now) some in omega (arith, e, count)

settled_rounds : (s : Setup) (before now : List Noted) (stale : Bool) → rounds s now ≡ (if is_lone_full s (if stale then Stale else Note) then rounds s before + 1 else rounds s before)
    → rounds s (now ++ []) ≡ rounds s before + one (is_full_kind (if stale then Stale else Note)) + 0
settled_rounds s before now true count = none_more s now (rounds s before) count
settled_rounds s before now false count = none_more s now (rounds s before) count

pub demanded_rounds : (s : Setup) (before : List Noted) (k : ℕ) (from : Mon) (frame : Frame) → s.monitors ≡ suc k
    → rounds s (before ++ n.Got from frame ∷ [] ++ demanded s before from.0 frame) ≡ rounds s before + one (is_full_kind (kind_of s before from.0 frame)) + one (opens_wide s before from.0 frame)
unfolding demanded opens_wide kind_of
demanded_rounds s before k from (f.Report seq border failed values) some =
    let frame = f.Report seq border failed values in
    report_rounds s before (before ++ n.Got from frame ∷ []) k (reported from.0 border values) (kind_of s before from.0 frame) some (got_count s before from frame)
demanded_rounds s before k from (f.Values round seq border values) some =
    let frame = f.Values round seq border values in
    values_rounds s before (before ++ n.Got from frame ∷ []) k (is_open s (before ++ n.Got from frame ∷ [])) some (got_count s before from frame)
demanded_rounds s before k from (f.Settled seq last places) some =
    settled_rounds s before (before ++ n.Got from (f.Settled seq last places) ∷ []) (Rattle.std.specs.Prelude.nat_lt seq (assigns_sent from.0 before)) (got_count s before from (f.Settled seq last places))
demanded_rounds s before k from (f.Hello run version m) some = none_more s (before ++ n.Got from (f.Hello run version m) ∷ []) (rounds s before) (got_count s before from (f.Hello run version m))
demanded_rounds s before k from (f.Collect round asked) some = none_more s (before ++ n.Got from (f.Collect round asked) ∷ []) (rounds s before) (got_count s before from (f.Collect round asked))
demanded_rounds s before k from (f.Assign seq members changes) some = none_more s (before ++ n.Got from (f.Assign seq members changes) ∷ []) (rounds s before) (got_count s before from (f.Assign seq members changes))
demanded_rounds s before k from f.Stop some = none_more s (before ++ n.Got from f.Stop ∷ []) (rounds s before) (got_count s before from f.Stop)

one_of : (b : Bool) → 0 + Rattle.std.specs.Prelude.cond b 1 0 ≡ one b
one_of true = refl
one_of false = refl

abbrev opened_by : List Turn → ℕ
opened_by ts = (counts_of ts).full + (counts_of ts).wide

rounds_turn : (s : Setup) (before : List Noted) (k : ℕ) (input : Noted) → s.monitors ≡ suc k → IsAccepted s before input → rounds s (before ++ turn_of s before input) ≡ rounds s before + opened_by (turned s before input)
unfolding turn_of
rounds_turn s before k (n.Got from frame) some accepted =
    let turn = n.Got from frame ∷ demanded s before from.0 frame in
    let ends : rounds s ((before ++ turn) ++ closing s (before ++ turn)) ≡ rounds s (before ++ turn) = (same_closing s (before ++ turn)).count in
    let whole : rounds s (before ++ (turn ++ closing s (before ++ turn))) ≡ rounds s (before ++ turn) = ap (rounds s) (sym (append_assoc before turn (closing s (before ++ turn)))) ∙ ends in
    let mid : rounds s (before ++ turn) ≡ rounds s before + one (is_full_kind (kind_of s before from.0 frame)) + one (opens_wide s before from.0 frame) =
    ap (rounds s) (sym (append_assoc before (n.Got from frame ∷ []) (demanded s before from.0 frame))) ∙ demanded_rounds s before k from frame some in
    let full = one_of (is_full_kind (kind_of s before from.0 frame)) in
    let wide = one_of (opens_wide s before from.0 frame) in
    omega (arith, whole, mid, full, wide)
rounds_turn s before k (n.Tuned k' epsilon) some accepted =
    let e : rounds s (before ++ n.Tuned k' epsilon ∷ wide_collects s (rounds s before + 1)) ≡ rounds s before + 1 =
    ap (rounds s) (sym (append_assoc before (n.Tuned k' epsilon ∷ []) (wide_collects s (rounds s before + 1)))) ∙ wide_rounds s (before ++ n.Tuned k' epsilon ∷ []) k (rounds s before + 1) some in
    omega (arith, e)
rounds_turn s before k (n.Sent to frame) some accepted = absurd accepted
rounds_turn s before k (n.Published publication) some accepted = absurd accepted

pub count-append : (p : Turn → Bool) (xs ys : List Turn) → count_by p (xs ++ ys) ≡ count_by p xs + count_by p ys
count-append p xs ys = sum_by-append (λ t. Rattle.std.specs.Prelude.cond (p t) 1 0) xs ys

opened_rounds : (o : Opening) → rounds o.settings (opened o) ≡ 0
unfolding rounds
opened_rounds o = named_count o.settings [] (λ p. p.0) (λ _. 1) o.members (λ p. p.1) (enumerate_from 1 o.factors)

pub rounds_read : (o : Opening) (j : List Noted) → IsSetUp o → IsLegal o j → rounds o.settings j ≡ (counts_of (turns_of o.settings j)).full + (counts_of (turns_of o.settings j)).wide
rounds_read o j set legal =
    let s = o.settings in
    let k = one_less s.monitors set.limits.some_monitor in
    by_turns o (λ xs. rounds s xs ≡ opened_by (turns_of s xs))
    (λ before input accepted front h.
    let t = rounds_turn s before k.0 input k.1 accepted in
    let go = ap opened_by (turns_go s before input accepted) in
    let a = count-append (λ t. is_full_kind t.kind) (turns_of s before) (turned s before input) in
    let b = count-append (λ t. t.widens) (turns_of s before) (turned s before input) in
    omega (arith, t, go, a, b, h))
    (opened_rounds o ∙ ap opened_by (sym (none_opened o))) j legal

-- ---- where a turn opens a wide round, it asks every monitor

full_wide : (s : Setup) (before now : List Noted) (report : Reported) (lone within : Bool) → rounds s now ≡ (if lone then rounds s before + 1 else rounds s before) → (lone && not within) ≡ true
    → (if lone then (if within then assigns before (full_at s before (report ∷ [])) else wide_collects s (rounds s before + 1 + 1)) else collects (rounds s before + 1) (objects_of report.values) (filter (λ mon. not (mon == report.mon.0)) (monitors s)))
    ≡ wide_collects s (rounds s now + 1)
full_wide s before now report true false count is = ap (λ c. wide_collects s (c + 1)) (sym count)
full_wide s before now report true true count is = absurd (false≢true is)
full_wide s before now report false within count is = absurd (false≢true is)

report_wide : (s : Setup) (before now : List Noted) (report : Reported) (kind : TurnKind) → rounds s now ≡ (if is_lone_full s kind then rounds s before + 1 else rounds s before) → report_widens s before report kind ≡ true
    → report_demands s before report kind ≡ wide_collects s (rounds s now + 1)
report_wide s before now report Tune count is = absurd (false≢true is)
report_wide s before now report Stale count is = absurd (false≢true is)
report_wide s before now report Note count is = absurd (false≢true is)
report_wide s before now report End count is = absurd (false≢true is)
report_wide s before now report Short count is = absurd (false≢true is)
report_wide s before now report Wide count is = ap (λ c. wide_collects s (c + 1)) (sym count)
report_wide s before now report Full count is = full_wide s before now report (s.monitors == 1) (is_within_limit (full_at s before (report ∷ []))) count is

ended_wide : (s : Setup) (now : List Noted) (wide within : Bool) → (not wide && not within) ≡ true
    → (if wide then assigns now (wide_at s now (reports_at s now)) else (if within then assigns now (full_at s now (reports_at s now)) else wide_collects s (rounds s now + 1))) ≡ wide_collects s (rounds s now + 1)
ended_wide s now false false is = refl
ended_wide s now false true is = absurd (false≢true is)
ended_wide s now true within is = absurd (false≢true is)

values_wide : (s : Setup) (now : List Noted) (kind : TurnKind) → values_widen s now kind ≡ true → values_demand s now kind ≡ wide_collects s (rounds s now + 1)
values_wide s now Tune is = absurd (false≢true is)
values_wide s now Stale is = absurd (false≢true is)
values_wide s now Note is = absurd (false≢true is)
values_wide s now Short is = absurd (false≢true is)
values_wide s now Wide is = absurd (false≢true is)
values_wide s now Full is = absurd (false≢true is)
values_wide s now End is = ended_wide s now (is_wide s now) (is_within_limit (full_at s now (reports_at s now))) is

pub wide_asks : (s : Setup) (before : List Noted) (from : Mon) (frame : Frame) → opens_wide s before from.0 frame ≡ true → demanded s before from.0 frame ≡ wide_collects s (rounds s (before ++ n.Got from frame ∷ []) + 1)
unfolding demanded opens_wide
wide_asks s before from (f.Report seq border failed values) is =
    let frame = f.Report seq border failed values in
    report_wide s before (before ++ n.Got from frame ∷ []) (reported from.0 border values) (kind_of s before from.0 frame) (got_count s before from frame) is
wide_asks s before from (f.Values round seq border values) is = values_wide s (before ++ n.Got from (f.Values round seq border values) ∷ []) (kind_of s before from.0 (f.Values round seq border values)) is
wide_asks s before from (f.Settled seq last places) is = absurd (false≢true is)
wide_asks s before from (f.Hello run version m) is = absurd (false≢true is)
wide_asks s before from (f.Collect round asked) is = absurd (false≢true is)
wide_asks s before from (f.Assign seq members changes) is = absurd (false≢true is)
wide_asks s before from f.Stop is = absurd (false≢true is)

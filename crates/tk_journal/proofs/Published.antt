-- Publications: their numbers, and where they stand.
use Rattle.std.proofs.Common.{◌≡◌, ℕ, Bool, true, false, ◌+◌, List, [], ◌∷◌, ◌++◌, length, map, drop, refl, sym, ap, ◌∙◌, subst, arith}
use Rattle.std.specs.Prelude.{ℤ, if◌then◌else◌, filter, not, ◌==◌, ◌||◌}
use Rattle.std.specs.List.{list_any, range_with_len, enumerate_from}
use Rattle.std.proofs.lemmas.List.{append-nil, length-append, map-append}
use Rattle.std.proofs.lemmas.List.Elements.{filter_map-append}
use Rattle.tk_base.specs.Settings.{Setup}
use Rattle.tk_base.specs.Objects.{objects}
use Rattle.tk_base.specs.Pairs.{objects_of}
use Rattle.tk_base.specs.declared.ids.Mon.{Mon}
use Rattle.tk_base.specs.History.{EachFrom}
use Rattle.tk_base.proofs.HistoryLemmas.{each_join}
use Rattle.tk_frames.specs.declared.frame.Frame.{Frame}
use Rattle.tk_frames.specs.declared.frame.Frame.TheVariants as f
use Rattle.tk_alloc.specs.declared.reported.Reported.{Reported}
use Rattle.tk_journal.specs.Laws.{SaysWhatIsDue}
use Rattle.tk_journal.specs.Deciding.{Decided, is_within_limit, reports_at}
use Rattle.tk_journal.specs.Readings.{monitors, assigns_sent, is_stop, is_stopped}
use Rattle.tk_journal.specs.declared.turn.TurnKind.{TurnKind}
use Rattle.tk_journal.specs.declared.turn.TurnKind.TheVariants.{Tune, Stale, Note, Short, Wide, Full, End}
use Rattle.tk_journal.specs.Turns.{reported, kind_of, rounds, collects, wide_collects, assigns, short_at, full_at, wide_at, full_end, wide_end, is_wide, report_demands, values_demand, demanded}
use Rattle.tk_journal.specs.Publishing.{publications, published_in, publication_at, is_due, is_last, closing, stops}
use Rattle.tk_journal.specs.Legal.{Opening, opened, IsLegal}
use Rattle.tk_journal.specs.declared.noted.Noted.{Noted}
use Rattle.tk_journal.specs.declared.noted.Noted.TheVariants as n
use Rattle.tk_journal.specs.declared.publication.Publication.{Publication}
use Rattle.tk_journal.proofs.Pieces.{batch}
use Rattle.tk_journal.proofs.LegalLemmas.{by_parts, legal_carries}
use Rattle.tk_journal.proofs.Naming.{range_push}

-- ---- what a frame demands publishes nothing

-- entries that send, and publish nothing
abbrev pub AreSent : List Noted → Type 0
AreSent [] = Unit {0}
AreSent (n.Got from frame ∷ entries) = ⊥
AreSent (n.Sent to frame ∷ entries) = AreSent entries
AreSent (n.Published publication ∷ entries) = ⊥
AreSent (n.Tuned k epsilon ∷ entries) = ⊥

pub batch_sent : {A : Type 0} (to : A → ℕ) (frame : A → Frame) (rows : List A) → AreSent (batch to frame rows)
batch_sent to frame [] = tt
batch_sent to frame (d ∷ rows) = batch_sent to frame rows

-- entries that send, and no Stop among what they send
abbrev pub AreWanted : List Noted → Type 0
AreWanted [] = Unit {0}
AreWanted (n.Got from frame ∷ entries) = ⊥
AreWanted (n.Sent to frame ∷ entries) = (is_stop (n.Sent to frame) ≡ false) × AreWanted entries
AreWanted (n.Published publication ∷ entries) = ⊥
AreWanted (n.Tuned k epsilon ∷ entries) = ⊥

pub as_sent : (entries : List Noted) → AreWanted entries → AreSent entries
as_sent [] w = tt
as_sent (n.Got from frame ∷ entries) w = absurd w
as_sent (n.Sent to frame ∷ entries) w = as_sent entries w.1
as_sent (n.Published publication ∷ entries) w = absurd w
as_sent (n.Tuned k epsilon ∷ entries) w = absurd w

pub no_stop : (entries : List Noted) → AreWanted entries → is_stopped entries ≡ false
unfolding is_stopped
no_stop [] w = refl
no_stop (n.Got from frame ∷ entries) w = absurd w
no_stop (n.Sent to frame ∷ entries) w = ap (λ b. b || list_any is_stop entries) w.0 ∙ no_stop entries w.1
no_stop (n.Published publication ∷ entries) w = absurd w
no_stop (n.Tuned k epsilon ∷ entries) w = absurd w

pub batch_wanted : {A : Type 0} (to : A → ℕ) (frame : A → Frame) (rows : List A) → ((d : A) → is_stop (n.Sent (record { 0 = to d }) (frame d)) ≡ false) → AreWanted (batch to frame rows)
batch_wanted to frame [] each = tt
batch_wanted to frame (d ∷ rows) each = (each d, batch_wanted to frame rows each)

pub assigns_are_wanted : (j : List Noted) (decided : Decided) → AreWanted (assigns j decided)
assigns_are_wanted j decided = batch_wanted (λ (d : ℕ × List (ℕ × ℤ)). d.0) (λ d. f.Assign (assigns_sent d.0 j + 1) decided.members d.1) (drop 1 decided.dealt) (λ d. refl)

pub collects_are_wanted : (round : ℕ) (asked mons : List ℕ) → AreWanted (collects round asked mons)
collects_are_wanted round asked mons = batch_wanted (λ m. m) (λ _. f.Collect round asked) mons (λ _. refl)

either_wanted : (b : Bool) (xs ys : List Noted) → AreWanted xs → AreWanted ys → AreWanted (if b then xs else ys)
either_wanted true xs ys p q = p
either_wanted false xs ys p q = q

full_wanted : (s : Setup) (j : List Noted) (next : ℕ) (reports : List Reported) → AreWanted (full_end s j next reports)
full_wanted s j next reports =
    either_wanted (is_within_limit (full_at s j reports)) (assigns j (full_at s j reports)) (wide_collects s next) (assigns_are_wanted j (full_at s j reports)) (collects_are_wanted next (objects s.objects) (monitors s))

report_wanted : (s : Setup) (before : List Noted) (report : Reported) (kind : TurnKind) → AreWanted (report_demands s before report kind)
report_wanted s before report Tune = tt
report_wanted s before report Stale = tt
report_wanted s before report Note = tt
report_wanted s before report Short = assigns_are_wanted before (short_at s before report)
report_wanted s before report Wide = collects_are_wanted (rounds s before + 1) (objects s.objects) (monitors s)
report_wanted s before report Full =
    either_wanted (s.monitors == 1) (full_end s before (rounds s before + 1 + 1) (report ∷ [])) (collects (rounds s before + 1) (objects_of report.values) (filter (λ mon. not (mon == report.mon.0)) (monitors s)))
    (full_wanted s before (rounds s before + 1 + 1) (report ∷ [])) (collects_are_wanted (rounds s before + 1) (objects_of report.values) (filter (λ mon. not (mon == report.mon.0)) (monitors s)))
report_wanted s before report End = tt

values_wanted : (s : Setup) (now : List Noted) (kind : TurnKind) → AreWanted (values_demand s now kind)
values_wanted s now Tune = tt
values_wanted s now Stale = tt
values_wanted s now Note = tt
values_wanted s now Short = tt
values_wanted s now Wide = tt
values_wanted s now Full = tt
values_wanted s now End =
    either_wanted (is_wide s now) (wide_end s now (reports_at s now)) (full_end s now (rounds s now + 1) (reports_at s now))
    (assigns_are_wanted now (wide_at s now (reports_at s now))) (full_wanted s now (rounds s now + 1) (reports_at s now))

pub demanded_wanted : (s : Setup) (before : List Noted) (mon : ℕ) (frame : Frame) → AreWanted (demanded s before mon frame)
unfolding demanded
demanded_wanted s before mon (f.Hello run version m) = tt
demanded_wanted s before mon (f.Report seq border failed values) = report_wanted s before (reported mon border values) (kind_of s before mon (f.Report seq border failed values))
demanded_wanted s before mon (f.Collect round asked) = tt
demanded_wanted s before mon (f.Values round seq border values) =
    values_wanted s (before ++ n.Got (record { 0 = mon }) (f.Values round seq border values) ∷ []) (kind_of s before mon (f.Values round seq border values))
demanded_wanted s before mon (f.Assign seq members changes) = tt
demanded_wanted s before mon (f.Settled seq last places) = tt
demanded_wanted s before mon f.Stop = tt

pub demanded_sent : (s : Setup) (before : List Noted) (mon : ℕ) (frame : Frame) → AreSent (demanded s before mon frame)
demanded_sent s before mon frame = as_sent (demanded s before mon frame) (demanded_wanted s before mon frame)

pub collects_are_sent : (round : ℕ) (asked mons : List ℕ) → AreSent (collects round asked mons)
collects_are_sent round asked mons = as_sent (collects round asked mons) (collects_are_wanted round asked mons)

-- ---- where publications stand

sent_say : (s : Setup) (before entries : List Noted) → AreSent entries → EachFrom (SaysWhatIsDue s) before entries
sent_say s before [] sent = tt
sent_say s before (n.Got from frame ∷ entries) sent = absurd sent
sent_say s before (n.Sent to frame ∷ entries) sent = (tt, sent_say s (before ++ n.Sent to frame ∷ []) entries sent)
sent_say s before (n.Published publication ∷ entries) sent = absurd sent
sent_say s before (n.Tuned k epsilon ∷ entries) sent = absurd sent

stops_say : (s : Setup) (before : List Noted) (last : Bool) → EachFrom (SaysWhatIsDue s) before (if last then stops s else [])
stops_say s before true = sent_say s before (stops s) (batch_sent (λ m. m) (λ _. f.Stop) (monitors s))
stops_say s before false = tt

closing_say : (s : Setup) (j : List Noted) (due : Bool) → is_due s j ≡ due
    → EachFrom (SaysWhatIsDue s) j (if due then n.Published (publication_at s j) ∷ (if is_last s j then stops s else []) else [])
closing_say s j true is = ((is, refl), stops_say s (j ++ n.Published (publication_at s j) ∷ []) (is_last s j))
closing_say s j false is = tt

abbrev SayAll : Setup → List Noted → Type 0
SayAll s j = EachFrom (SaysWhatIsDue s) [] j

say_demands : (s : Setup) (before : List Noted) (from : Mon) (frame : Frame) → SayAll s before → SayAll s (before ++ n.Got from frame ∷ [] ++ demanded s before from.0 frame)
say_demands s before from frame h =
    each_join (SaysWhatIsDue s) [] (before ++ n.Got from frame ∷ []) (demanded s before from.0 frame)
    (each_join (SaysWhatIsDue s) [] before (n.Got from frame ∷ []) h (tt, tt))
    (sent_say s (before ++ n.Got from frame ∷ []) (demanded s before from.0 frame) (demanded_sent s before from.0 frame))

say_closes : (s : Setup) (j : List Noted) → SayAll s j → SayAll s (j ++ closing s j)
unfolding closing
say_closes s j h = each_join (SaysWhatIsDue s) [] j (closing s j) h (closing_say s j (is_due s j) refl)

say_tunes : (s : Setup) (before : List Noted) (k : ℕ) (epsilon : ℤ) → SayAll s before → SayAll s (before ++ n.Tuned k epsilon ∷ [] ++ wide_collects s (rounds s before + 1))
say_tunes s before k epsilon h =
    each_join (SaysWhatIsDue s) [] (before ++ n.Tuned k epsilon ∷ []) (wide_collects s (rounds s before + 1))
    (each_join (SaysWhatIsDue s) [] before (n.Tuned k epsilon ∷ []) h (tt, tt))
    (sent_say s (before ++ n.Tuned k epsilon ∷ []) (wide_collects s (rounds s before + 1)) (collects_are_sent (rounds s before + 1) (objects s.objects) (monitors s)))

pub legal_say : (o : Opening) (j : List Noted) → IsLegal o j → EachFrom (SaysWhatIsDue o.settings) [] j
legal_say o j legal =
    let s = o.settings in
    legal_carries o (SayAll s) (by_parts s (SayAll s) (record {
      demands = λ before from frame range none h. say_demands s before from frame h;
      closes = say_closes s;
      tunes = λ before k epsilon accepted h. say_tunes s before k epsilon h;
    })) (sent_say s [] (opened o) (batch_sent (λ (p : ℕ × List (ℕ × ℤ)). p.0) (λ p. f.Assign 1 o.members p.1) (enumerate_from 1 o.factors))) j legal

-- ---- their numbers

abbrev AreCountedUp : List Noted → Type 0
AreCountedUp j = map (λ (p : Publication). p.number) (publications j) ≡ range_with_len 1 (length (publications j))

pub sent_none : (entries : List Noted) → AreSent entries → publications entries ≡ []
sent_none [] sent = refl
sent_none (n.Got from frame ∷ entries) sent = absurd sent
sent_none (n.Sent to frame ∷ entries) sent = sent_none entries sent
sent_none (n.Published publication ∷ entries) sent = absurd sent
sent_none (n.Tuned k epsilon ∷ entries) sent = absurd sent

pub none_more : (j entries : List Noted) → publications entries ≡ [] → publications (j ++ entries) ≡ publications j
none_more j entries none = filter_map-append published_in j entries ∙ ap (λ (ps : List Publication). publications j ++ ps) none ∙ append-nil (publications j)

count_same : (j k : List Noted) → publications k ≡ publications j → AreCountedUp j → AreCountedUp k
count_same j k same h = subst (λ (ps : List Publication). map (λ (p : Publication). p.number) ps ≡ range_with_len 1 (length ps)) (sym same) h

one_more : (ps : List Publication) (p : Publication) → p.number ≡ length ps + 1 → map (λ (q : Publication). q.number) ps ≡ range_with_len 1 (length ps)
    → map (λ (q : Publication). q.number) (ps ++ p ∷ []) ≡ range_with_len 1 (length (ps ++ p ∷ []))
one_more ps p next before =
    map-append (λ (q : Publication). q.number) ps (p ∷ [])
    ∙ ap (λ xs. xs ++ p.number ∷ []) before
    ∙ ap (λ m. range_with_len 1 (length ps) ++ m ∷ []) (next ∙ (let e : length ps + 1 ≡ 1 + length ps = omega arith in e))
    ∙ range_push 1 (length ps)
    ∙ ap (range_with_len 1) (sym (length-append ps (p ∷ [])))

stops_none : (s : Setup) (last : Bool) → publications (if last then stops s else []) ≡ []
stops_none s true = sent_none (stops s) (batch_sent (λ m. m) (λ _. f.Stop) (monitors s))
stops_none s false = refl

count_published : (s : Setup) (j : List Noted) (due : Bool) → AreCountedUp j → AreCountedUp (j ++ (if due then n.Published (publication_at s j) ∷ (if is_last s j then stops s else []) else []))
count_published s j true h =
    let p = publication_at s j in
    let all : publications (j ++ n.Published p ∷ (if is_last s j then stops s else [])) ≡ publications j ++ p ∷ [] =
    filter_map-append published_in j (n.Published p ∷ (if is_last s j then stops s else [])) ∙ ap (λ (ps : List Publication). publications j ++ p ∷ ps) (stops_none s (is_last s j)) in
    subst (λ (ps : List Publication). map (λ (q : Publication). q.number) ps ≡ range_with_len 1 (length ps)) (sym all) (one_more (publications j) p refl h)
count_published s j false h = count_same j (j ++ []) (none_more j [] refl) h

count_closes : (s : Setup) (j : List Noted) → AreCountedUp j → AreCountedUp (j ++ closing s j)
unfolding closing
count_closes s j h = count_published s j (is_due s j) h

pub legal_counted : (o : Opening) (j : List Noted) → IsLegal o j → map (λ (p : Publication). p.number) (publications j) ≡ range_with_len 1 (length (publications j))
legal_counted o j legal =
    let s = o.settings in
    legal_carries o AreCountedUp (by_parts s AreCountedUp (record {
      demands = λ before from frame range none h.
          count_same (before ++ n.Got from frame ∷ []) (before ++ n.Got from frame ∷ [] ++ demanded s before from.0 frame)
          (none_more (before ++ n.Got from frame ∷ []) (demanded s before from.0 frame) (sent_none (demanded s before from.0 frame) (demanded_sent s before from.0 frame)))
          (count_same before (before ++ n.Got from frame ∷ []) (none_more before (n.Got from frame ∷ []) refl) h);
      closes = count_closes s;
      tunes = λ before k epsilon accepted h.
          count_same (before ++ n.Tuned k epsilon ∷ []) (before ++ n.Tuned k epsilon ∷ [] ++ wide_collects s (rounds s before + 1))
          (none_more (before ++ n.Tuned k epsilon ∷ []) (wide_collects s (rounds s before + 1)) (sent_none (wide_collects s (rounds s before + 1)) (collects_are_sent (rounds s before + 1) (objects s.objects) (monitors s))))
          (count_same before (before ++ n.Tuned k epsilon ∷ []) (none_more before (n.Tuned k epsilon ∷ []) refl) h);
    })) (subst (λ (ps : List Publication). map (λ (q : Publication). q.number) ps ≡ range_with_len 1 (length ps))
    (sym (sent_none (opened o) (batch_sent (λ (p : ℕ × List (ℕ × ℤ)). p.0) (λ p. f.Assign 1 o.members p.1) (enumerate_from 1 o.factors)))) refl) j legal

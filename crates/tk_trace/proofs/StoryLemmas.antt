-- What a story keeps can be written.
use Rattle.std.proofs.Common.{◌≡◌, ℕ, suc, ◌+◌, ◌-◌, ◌<◌, ◌≤◌, ◌^◌, ◌≤ℤ◌, ◌==◌, not, ℤ, pos, Bool, true, false, cond, All, List, [], ◌∷◌, ◌++◌, map, length, take, drop, get_or, Option, Some, None, refl, sym, ap, subst, ◌∙◌, arith}
use Rattle.std.specs.Prelude.{filter, fold, filter_map, slice_get, Contains, if◌then◌else◌, ⊤}
use Rattle.std.specs.List.{cons_option, enumerate_from}
use Rattle.std.proofs.lemmas.Int.{ints}
use Rattle.std.proofs.lemmas.Bool.{eq-eqb}
use Rattle.std.proofs.lemmas.List.{get_or_default, take-append-drop}
use Rattle.std.proofs.lemmas.List.Elements.{All-append, All-cons, All-contains_itself, All-filter, All-head, All-map, All-nil, All-push, All-tail, All-take, All-weaker}
use Rattle.tk_base.specs.History.{EachFrom, IsFront, last_of}
use Rattle.tk_base.specs.Objects.{objects, IsOneOf}
use Rattle.tk_base.specs.Settings.{Setup}
use Rattle.tk_base.specs.declared.ids.Mon.{Mon}
use Rattle.tk_base.proofs.HistoryLemmas.{each_place}
use Rattle.tk_frames.specs.Encoding.{IsBadHello}
use Rattle.tk_frames.specs.declared.frame.Frame.{Frame}
use Rattle.tk_frames.specs.declared.frame.Frame.TheVariants as f
use Rattle.tk_alloc.specs.declared.reported.Reported.{Reported}
use Rattle.tk_journal.specs.Deciding.{Decided, report_of, reports_at, short_decides}
use Rattle.tk_journal.specs.Laws.{AreSentShort, IsMonitor, IsSetUp}
use Rattle.tk_journal.specs.Legal.{IsLegal, Opening, opened, start}
use Rattle.tk_journal.specs.Links.{frames_from, frames_to}
use Rattle.tk_journal.specs.Publishing.{closing, is_due, is_last, publication_at, stops}
use Rattle.tk_journal.specs.Readings.{assigns_sent, in_force, is_over, monitors, tuned_to, tunings, Tuning}
use Rattle.tk_journal.specs.Sending.{CanBeTaken, IsSaidWell}
use Rattle.tk_journal.specs.Shapes.{Shape}
use Rattle.tk_journal.specs.Shapes.Shape.{Plain, Short, Wide, Full, LoneEnd, LoneWide, EndFull, EndOver, EndWide}
use Rattle.tk_journal.specs.Turns.{assigns, collects, demanded, full_at, reported, rounds, short_at, wide_at, wide_collects}
use Rattle.tk_journal.specs.declared.publication.Publication.{Publication}
use Rattle.tk_base.specs.Pairs.{objects_of}
use Rattle.tk_journal.specs.declared.noted.Noted.{Noted}
use Rattle.tk_journal.specs.declared.noted.Noted.TheVariants as n
use Rattle.tk_journal.proofs.LegalLemmas.{FrameTurn, by_parts, legal_carries}
use Rattle.tk_journal.proofs.Orderly.{full_nodes, wide_nodes}
use Rattle.tk_journal.proofs.Reports.{named_report}
use Rattle.tk_journal.proofs.SendLemmas.{listed_monitor}
use Rattle.tk_journal.proofs.ShapeLemmas.{shape}
use Rattle.std.proofs.Math.Seq.{drop-cons}
use Rattle.tk_base.specs.Ascending.{IsAscending}
use Rattle.tk_base.proofs.AscendingLemmas.{ascending_positive}
use Rattle.tk_input.specs.Logs.{IsCut, parts_of}
use Rattle.tk_frames.proofs.Steps.{some_is}
use Rattle.tk_journal.specs.Links.{got_from, sent_to}
use Rattle.tk_journal.specs.Readings.{first_round}
use Rattle.tk_journal.specs.Sending.{IsPublishable}
use Rattle.tk_journal.proofs.SendTurns.{legal_well}
use Rattle.tk_journal.proofs.Sizes.{objects_few}
use Rattle.tk_journal.proofs.SoundLemmas.{legal_firm}
use Rattle.tk_journal.proofs.StartLemmas.{start_set_up}
use Rattle.tk_trail.specs.Legal.{IsLegal as IsLegalTrail}
use Rattle.tk_trail.specs.Readings.{sent_by, sent_in, taken_by, taken_in}
use Rattle.tk_trail.specs.Setup.{IsSetup, MonitorSetup}
use Rattle.tk_trail.specs.declared.entry.Entry.{Entry}
use Rattle.tk_trail.specs.declared.entry.Entry.TheVariants.{Raised, Took, Sent}
use Rattle.tk_trail.proofs.BoundLemmas.{sent_short}
use Rattle.tk_trail.proofs.LawLemmas.{allowed_at}
use Rattle.tk_trail.proofs.SaysLemmas.{is_upward, sent_where, upward}
use Rattle.tk_story.specs.Story.{IsStory, StoryView, setup_of, trail_of}
use Rattle.tk_story.proofs.PublishedLemmas.{published_holds}
use Rattle.tk_story.proofs.QuietLemmas.{setup_is}
use Rattle.tk_trace.specs.Writing.{CanBeEntered, CanBeNoted, CanBePublished, CanBeSpelled}
use Rattle.std.proofs.lemmas.Option.{get_or_from_slice_get, cond_some}

-- ---- each monitor that a legal journal names is there

-- an entry names a monitor of so many, and an epsilon from 0 on
abbrev pub IsThere : ℕ → Noted → Type 0
IsThere many (n.Got from frame) = IsOneOf many from.0
IsThere many (n.Sent to frame) = IsOneOf many to.0
IsThere many (n.Published p) = ⊤
IsThere many (n.Tuned k epsilon) = pos 0 ≤ℤ epsilon

one_of : (s : Setup) (mon : ℕ) → IsMonitor s mon → IsOneOf s.monitors mon
one_of s mon is = (is.from_one, is.within)

monitors_there : (s : Setup) → All (IsOneOf s.monitors) (monitors s)
monitors_there s = All-weaker (Contains (monitors s)) (IsOneOf s.monitors) (λ mon among. one_of s mon (listed_monitor s mon among)) (monitors s) (All-contains_itself (monitors s))

-- frames sent to some monitors
sent_there : {A : Type 0} (many : ℕ) (to : A → Mon) (frame : A → Frame) (rows : List A) → All (λ row. IsOneOf many (to row).0) rows → All (IsThere many) (map (λ row. n.Sent (to row) (frame row)) rows)
sent_there many to frame rows there = All-map (IsThere many) (λ row. n.Sent (to row) (frame row)) rows there

collects_there : (s : Setup) (round : ℕ) (asked mons : List ℕ) → All (IsOneOf s.monitors) mons → All (IsThere s.monitors) (collects round asked mons)
collects_there s round asked mons there = sent_there s.monitors (λ mon. record { 0 = mon }) (λ mon. f.Collect round asked) mons there

unmapped : {A B : Type 0} (P : B → Type 0) (g : A → B) (xs : List A) → All P (map g xs) → All (λ x. P (g x)) xs
unmapped P g [] facts = All-nil (λ x. P (g x))
unmapped P g (x ∷ xs) facts = All-cons (λ x. P (g x)) x xs (All-head P (g x) (map g xs) facts) (unmapped P g xs (All-tail P (g x) (map g xs) facts))

one_report : (s : Setup) (mon : ℕ) (o : Option Reported) (rest : List Reported) → IsOneOf s.monitors mon → ((r : Reported) → o ≡ Some r → r.mon.0 ≡ mon) → All (λ r. IsOneOf s.monitors r.mon.0) rest → All (λ r. IsOneOf s.monitors r.mon.0) (cons_option o rest)
one_report s mon None rest there named others = others
one_report s mon (Some r) rest there named others = All-cons (λ r. IsOneOf s.monitors r.mon.0) r rest (subst (IsOneOf s.monitors) (sym (named r refl)) there) others

reports_there : (s : Setup) (j : List Noted) (mons : List ℕ) → All (IsOneOf s.monitors) mons → All (λ r. IsOneOf s.monitors r.mon.0) (filter_map (λ mon. report_of mon j) mons)
reports_there s j [] there = All-nil (λ (r : Reported). IsOneOf s.monitors r.mon.0)
reports_there s j (mon ∷ mons) there =
    one_report s mon (report_of mon j) (filter_map (λ mon. report_of mon j) mons) (All-head (IsOneOf s.monitors) mon mons there) (named_report mon j)
    (reports_there s j mons (All-tail (IsOneOf s.monitors) mon mons there))

assigns_there : (s : Setup) (j : List Noted) (decided : Decided) (reports : List Reported) → map (λ d. d.0) (drop 1 decided.dealt) ≡ map (λ r. r.mon.0) reports → All (λ r. IsOneOf s.monitors r.mon.0) reports → All (IsThere s.monitors) (assigns j decided)
assigns_there s j decided reports is there =
    let mons : All (IsOneOf s.monitors) (map (λ d. d.0) (drop 1 decided.dealt)) = subst (All (IsOneOf s.monitors)) (sym is) (All-map (IsOneOf s.monitors) (λ (r : Reported). r.mon.0) reports there) in
    sent_there s.monitors (λ (d : ℕ × List (ℕ × ℤ)). record { 0 = d.0 }) (λ d. f.Assign (assigns_sent d.0 j + 1) decided.members d.1) (drop 1 decided.dealt) (unmapped (IsOneOf s.monitors) (λ d. d.0) (drop 1 decided.dealt) mons)

short_nodes : (s : Setup) (j : List Noted) (report : Reported) → map (λ d. d.0) (drop 1 (short_at s j report).dealt) ≡ map (λ (r : Reported). r.mon.0) (report ∷ [])
unfolding short_decides
short_nodes s j report = refl

alone : (s : Setup) (mon : ℕ) (border : ℤ) (values : List (ℕ × ℤ)) → IsOneOf s.monitors mon → All (λ (r : Reported). IsOneOf s.monitors r.mon.0) (reported mon border values ∷ [])
alone s mon border values is = All-cons (λ (r : Reported). IsOneOf s.monitors r.mon.0) (reported mon border values) [] is (All-nil (λ (r : Reported). IsOneOf s.monitors r.mon.0))

gathered : (s : Setup) (j : List Noted) → All (λ (r : Reported). IsOneOf s.monitors r.mon.0) (reports_at s j)
unfolding reports_at
gathered s j = reports_there s j (monitors s) (monitors_there s)

demands_there : (s : Setup) (before : List Noted) (from : Mon) (frame : Frame) (demands : List Noted) → IsOneOf s.monitors from.0 → Shape s before from frame demands → All (IsThere s.monitors) demands
demands_there s before from frame demands is (Plain e a b c) = subst (All (IsThere s.monitors)) (sym e) (All-nil (IsThere s.monitors))
demands_there s before from frame demands is (Short border failed values r a b e) =
    subst (All (IsThere s.monitors)) (sym e) (assigns_there s before (short_at s before (reported from.0 border values)) (reported from.0 border values ∷ []) (short_nodes s before (reported from.0 border values)) (alone s from.0 border values is))
demands_there s before from frame demands is (Wide border failed values r e) = subst (All (IsThere s.monitors)) (sym e) (collects_there s (rounds s before + 1) (objects s.objects) (monitors s) (monitors_there s))
demands_there s before from frame demands is (Full border failed values r a b c e) =
    subst (All (IsThere s.monitors)) (sym e) (collects_there s (rounds s before + 1) (objects_of values) (filter (λ mon. not (mon == from.0)) (monitors s)) (All-filter (λ mon. not (mon == from.0)) (IsOneOf s.monitors) (monitors s) (monitors_there s)))
demands_there s before from frame demands is (LoneEnd border failed values r a b c d e) =
    subst (All (IsThere s.monitors)) (sym e) (assigns_there s before (full_at s before (reported from.0 border values ∷ [])) (reported from.0 border values ∷ []) (full_nodes s before (reported from.0 border values ∷ [])) (alone s from.0 border values is))
demands_there s before from frame demands is (LoneWide border failed values r a b c e) = subst (All (IsThere s.monitors)) (sym e) (collects_there s (rounds s before + 1 + 1) (objects s.objects) (monitors s) (monitors_there s))
demands_there s before from frame demands is (EndFull r a b e) =
    let now = before ++ n.Got from frame ∷ [] in
    subst (All (IsThere s.monitors)) (sym e) (assigns_there s now (full_at s now (reports_at s now)) (reports_at s now) (full_nodes s now (reports_at s now)) (gathered s now))
demands_there s before from frame demands is (EndOver r a e) = subst (All (IsThere s.monitors)) (sym e) (collects_there s (rounds s (before ++ n.Got from frame ∷ []) + 1) (objects s.objects) (monitors s) (monitors_there s))
demands_there s before from frame demands is (EndWide r a e) =
    let now = before ++ n.Got from frame ∷ [] in
    subst (All (IsThere s.monitors)) (sym e) (assigns_there s now (wide_at s now (reports_at s now)) (reports_at s now) (wide_nodes s now (reports_at s now)) (gathered s now))

closes_by : (s : Setup) (j : List Noted) (p : Publication) (due last : Bool) → All (IsThere s.monitors) (if due then n.Published p ∷ (if last then stops s else []) else [])
closes_by s j p true true = All-cons (IsThere s.monitors) (n.Published p) (stops s) tt (sent_there s.monitors (λ mon. record { 0 = mon }) (λ mon. f.Stop) (monitors s) (monitors_there s))
closes_by s j p true false = All-cons (IsThere s.monitors) (n.Published p) [] tt (All-nil (IsThere s.monitors))
closes_by s j p false last = All-nil (IsThere s.monitors)

closing_there : (s : Setup) (j : List Noted) → All (IsThere s.monitors) (closing s j)
unfolding closing
closing_there s j = closes_by s j (publication_at s j) (is_due s j) (is_last s j)

turns_there : (s : Setup) → FrameTurn s (All (IsThere s.monitors))
turns_there s = record {
  demands = λ before from frame is accepted here.
      All-append (IsThere s.monitors) (before ++ n.Got from frame ∷ []) (demanded s before from.0 frame)
      (All-push (IsThere s.monitors) before (n.Got from frame) here (one_of s from.0 is))
      (demands_there s before from frame (demanded s before from.0 frame) (one_of s from.0 is) (shape s before from frame is accepted));
  closes = λ j here. All-append (IsThere s.monitors) j (closing s j) here (closing_there s j);
  tunes = λ before k epsilon accepted here.
      All-append (IsThere s.monitors) (before ++ n.Tuned k epsilon ∷ []) (wide_collects s (rounds s before + 1))
      (All-push (IsThere s.monitors) before (n.Tuned k epsilon) here (from_zero epsilon accepted.0 accepted.1))
      (collects_there s (rounds s before + 1) (objects s.objects) (monitors s) (monitors_there s));
}
  where
    from_zero : (z : ℤ) (e : ℕ) → z ≡ pos e → pos 0 ≤ℤ z
    from_zero z e is = subst (λ (x : ℤ). pos 0 ≤ℤ x) (sym is) (omega (arith, ints))

numbered : {A : Type 0} (many a : ℕ) (xs : List A) → 1 ≤ a → a + length xs ≤ many + 1 → All (λ (p : ℕ × A). IsOneOf many p.0) (enumerate_from a xs)
numbered {A = A} many a [] low few = All-nil (λ (p : ℕ × A). IsOneOf many p.0)
numbered {A = A} many a (x ∷ xs) low few = All-cons (λ (p : ℕ × A). IsOneOf many p.0) (a, x) (enumerate_from (a + 1) xs) (low, omega (arith, few)) (numbered many (a + 1) xs (omega arith) (omega (arith, few)))

opening_there : (o : Opening) → IsSetUp o → All (IsThere o.settings.monitors) (opened o)
opening_there o set =
    sent_there o.settings.monitors (λ (p : ℕ × List (ℕ × ℤ)). record { 0 = p.0 }) (λ p. f.Assign 1 o.members p.1) (enumerate_from 1 o.factors)
    (numbered o.settings.monitors 1 o.factors (omega arith) (omega (arith, set.factors)))

pub journal_there : (o : Opening) (j : List Noted) → IsSetUp o → IsLegal o j → All (IsThere o.settings.monitors) j
journal_there o j set legal = legal_carries o (All (IsThere o.settings.monitors)) (by_parts o.settings (All (IsThere o.settings.monitors)) (turns_there o.settings)) (opening_there o set) j legal

-- a list at one of its places
split_at : {A : Type 0} (xs : List A) (k : ℕ) (d : A) → k < length xs → xs ≡ take k xs ++ get_or xs k d ∷ drop (k + 1) xs
split_at xs k d within =
    let next : suc k ≡ k + 1 = omega arith in
    sym (take-append-drop k xs) ∙ ap (λ ys. take k xs ++ ys) (drop-cons xs k d within ∙ ap (λ (n : ℕ). get_or xs k d ∷ drop n xs) next)

-- ---- frames

-- one of two options, and a list behind it
behind : {A : Type 0} (P : A → Type 0) (o : Option A) (xs : List A) → ((x : A) → o ≡ Some x → P x) → All P xs → All P (cons_option o xs)
behind P None xs here rest = rest
behind P (Some x) xs here rest = All-cons P x xs (here x refl) rest

-- what is true of each frame that an entry may give is true of all that are given
given_by : {E A : Type 0} (P : A → Type 0) (give : E → Option A) (Q : E → Type 0) → ((e : E) (x : A) → Q e → give e ≡ Some x → P x) → (es : List E) → All Q es → All P (filter_map give es)
given_by P give Q holds [] facts = All-nil P
given_by P give Q holds (e ∷ es) facts = behind P (give e) (filter_map give es) (λ x is. holds e x (All-head Q e es facts) is) (given_by P give Q holds es (All-tail Q e es facts))

-- an entry that gives a frame gives it at some place
stands_in : {E A : Type 0} (P : A → Type 0) (give : E → Option A) (es : List E) → All P (filter_map give es) → All (λ e. (x : A) → give e ≡ Some x → P x) es
stands_in P give [] facts = All-nil (λ e. (x : _) → give e ≡ Some x → P x)
stands_in P give (e ∷ es) facts =
    let split = apart P (give e) (filter_map give es) facts in
    All-cons (λ e. (x : _) → give e ≡ Some x → P x) e es split.0 (stands_in P give es split.1)
  where
    apart : {A : Type 0} (P : A → Type 0) (o : Option A) (xs : List A) → All P (cons_option o xs) → ((x : A) → o ≡ Some x → P x) × All P xs
    apart P None xs facts = ((λ x is. absurd cc), facts)
    apart P (Some y) xs facts = ((λ x is. subst P (some_is y x is) (All-head P y xs facts)), All-tail P y xs facts)

-- a front of a list has what all of the list have
front_has : {A : Type 0} (P : A → Type 0) (xs ys : List A) → IsFront xs ys → All P ys → All P xs
front_has P xs ys front facts = subst (All P) (sym front.is) (All-take P (length xs) ys facts)

-- ---- frames to monitors

goes_down : (s : Setup) (before : List Noted) (mon : ℕ) (frame : Frame) → CanBeTaken s before mon frame → IsBadHello frame → ⊥
goes_down s before mon (f.Hello run version m) can bad = can
goes_down s before mon (f.Report seq border failed values) can bad = bad
goes_down s before mon (f.Collect round asked) can bad = bad
goes_down s before mon (f.Values round seq border values) can bad = bad
goes_down s before mon (f.Assign seq members changes) can bad = bad
goes_down s before mon (f.Settled seq last places) can bad = bad
goes_down s before mon f.Stop can bad = bad

-- every frame that a journal sends can be spelled
abbrev IsSentWell : Noted → Type 0
IsSentWell (n.Got from frame) = ⊤
IsSentWell (n.Sent to frame) = CanBeSpelled frame
IsSentWell (n.Published p) = ⊤
IsSentWell (n.Tuned k epsilon) = ⊤

all_sent_well : (s : Setup) (before j : List Noted) → EachFrom (IsSaidWell s) before j → AreSentShort j → All IsSentWell j
all_sent_well s before [] said short = All-nil IsSentWell
all_sent_well s before (n.Got from frame ∷ j) said short = All-cons IsSentWell (n.Got from frame) j tt (all_sent_well s (before ++ n.Got from frame ∷ []) j said.1 short)
all_sent_well s before (n.Sent to frame ∷ j) said short =
    All-cons IsSentWell (n.Sent to frame) j (record { short = short.0; hello = goes_down s before to.0 frame said.0 }) (all_sent_well s (before ++ n.Sent to frame ∷ []) j said.1 short.1)
all_sent_well s before (n.Published p ∷ j) said short = All-cons IsSentWell (n.Published p) j tt (all_sent_well s (before ++ n.Published p ∷ []) j said.1 short)
all_sent_well s before (n.Tuned k epsilon ∷ j) said short = All-cons IsSentWell (n.Tuned k epsilon) j tt (all_sent_well s (before ++ n.Tuned k epsilon ∷ []) j said.1 short)

down_of : (mon : ℕ) (e : Noted) (frame : Frame) → IsSentWell e → sent_to mon e ≡ Some frame → CanBeSpelled frame
down_of mon (n.Got from g) frame well is = absurd cc
down_of mon (n.Sent to g) frame well is = subst CanBeSpelled (cond_some (to.0 == mon) g frame is).1 well
down_of mon (n.Published p) frame well is = absurd cc
down_of mon (n.Tuned k epsilon) frame well is = absurd cc

-- ---- frames of a monitor

goes_up : (frame : Frame) → is_upward frame ≡ true → IsBadHello frame → ⊥
goes_up (f.Hello run version m) up bad = absurd cc
goes_up (f.Report seq border failed values) up bad = bad
goes_up (f.Collect round asked) up bad = bad
goes_up (f.Values round seq border values) up bad = bad
goes_up (f.Assign seq members changes) up bad = bad
goes_up (f.Settled seq last places) up bad = bad
goes_up f.Stop up bad = bad

-- a frame that a trail has sent can be spelled
abbrev IsSaidSo : Entry → Type 0
IsSaidSo (Raised feeder) = ⊤
IsSaidSo (Took frame) = ⊤
IsSaidSo (Sent frame) = CanBeSpelled frame

said_at : (setup : MonitorSetup) (trail before after : List Entry) (e : Entry) → IsSetup setup → IsLegalTrail setup trail → trail ≡ before ++ e ∷ after → IsSaidSo e
said_at setup trail before after (Raised feeder) good legal is = tt
said_at setup trail before after (Took frame) good legal is = tt
said_at setup trail before after (Sent frame) good legal is = record {
  short = sent_short setup before after frame good (subst (IsLegalTrail setup) is legal);
  hello = goes_up frame (upward setup before frame (sent_where setup trail before after frame legal is));
}

all_said : (setup : MonitorSetup) (trail : List Entry) → IsSetup setup → IsLegalTrail setup trail → All IsSaidSo trail
all_said setup trail good legal k d within = said_at setup trail (take k trail) (drop (k + 1) trail) (get_or trail k d) good legal (split_at trail k d within)

-- ---- a story

-- the links of a story carry what can be spelled
taken_can : (s : StoryView) (mon : ℕ) → IsStory s → IsMonitor s.settings mon → All (λ e. (x : Frame) → taken_in e ≡ Some x → CanBeSpelled x) (trail_of s mon)
taken_can s mon is there =
    let set = start_set_up s.settings is.limits in
    let well = all_sent_well s.settings [] s.journal (legal_well (start s.settings) s.journal set is.journal_legal).each (legal_firm (start s.settings) s.journal set is.journal_legal).short in
    let sent : All CanBeSpelled (frames_to mon s.journal) = given_by CanBeSpelled (sent_to mon) IsSentWell (down_of mon) s.journal well in
    stands_in CanBeSpelled taken_in (trail_of s mon) (front_has CanBeSpelled (taken_by (trail_of s mon)) (frames_to mon s.journal) (is.links mon there).down sent)

said_in : (e : Entry) (frame : Frame) → IsSaidSo e → sent_in e ≡ Some frame → CanBeSpelled frame
said_in (Raised feeder) frame so is = absurd cc
said_in (Took g) frame so is = absurd cc
said_in (Sent g) frame so is = subst CanBeSpelled (some_is g frame is) so

got_can : (s : StoryView) (mon : ℕ) → IsStory s → IsMonitor s.settings mon → All (λ e. (x : Frame) → got_from mon e ≡ Some x → CanBeSpelled x) s.journal
got_can s mon is there =
    let said = all_said (setup_of s mon) (trail_of s mon) (setup_is s is mon there) (is.trails_legal mon there) in
    let sent : All CanBeSpelled (sent_by (trail_of s mon)) = given_by CanBeSpelled sent_in IsSaidSo said_in (trail_of s mon) said in
    stands_in CanBeSpelled (got_from mon) s.journal (front_has CanBeSpelled (frames_from mon s.journal) (sent_by (trail_of s mon)) (is.links mon there).up sent)

-- ---- publications of a story

-- the epsilon in force is from 0 on
tunings_from_zero : (many : ℕ) (j : List Noted) → All (IsThere many) j → All (λ (t : Tuning). pos 0 ≤ℤ t.epsilon) (tunings j)
tunings_from_zero many [] there = All-nil (λ (t : Tuning). pos 0 ≤ℤ t.epsilon)
tunings_from_zero many (n.Got from frame ∷ j) there = tunings_from_zero many j (All-tail (IsThere many) (n.Got from frame) j there)
tunings_from_zero many (n.Sent to frame ∷ j) there = tunings_from_zero many j (All-tail (IsThere many) (n.Sent to frame) j there)
tunings_from_zero many (n.Published p ∷ j) there = tunings_from_zero many j (All-tail (IsThere many) (n.Published p) j there)
tunings_from_zero many (n.Tuned k epsilon ∷ j) there =
    All-cons (λ (t : Tuning). pos 0 ≤ℤ t.epsilon) (record { k = k; epsilon = epsilon; round = first_round j }) (tunings j) (All-head (IsThere many) (n.Tuned k epsilon) j there)
    (tunings_from_zero many j (All-tail (IsThere many) (n.Tuned k epsilon) j there))

tuned_from_zero : (s : Setup) (last : Option Tuning) → pos 0 ≤ℤ s.epsilon → ((t : Tuning) → last ≡ Some t → pos 0 ≤ℤ t.epsilon) → pos 0 ≤ℤ (tuned_to s last).epsilon
tuned_from_zero s None own tuned = own
tuned_from_zero s (Some t) own tuned = tuned t refl

last_has : {A : Type 0} (P : A → Type 0) (first : Option A) (xs : List A) → ((x : A) → first ≡ Some x → P x) → All P xs → (x : A) → fold (λ _ e. Some e) first xs ≡ Some x → P x
last_has P first [] here facts x is = here x is
last_has P first (y ∷ xs) here facts x is = last_has P (Some y) xs (λ z same. subst P (some_is y z same) (All-head P y xs facts)) (All-tail P y xs facts) x is

force_from_zero : (s : Setup) (j : List Noted) → pos 0 ≤ℤ s.epsilon → All (IsThere s.monitors) j → pos 0 ≤ℤ (in_force s j).epsilon
unfolding in_force
force_from_zero s j own there =
    tuned_from_zero s (last_of (filter (λ t. is_over s j t.round) (tunings j))) own
    (last_has (λ (t : Tuning). pos 0 ≤ℤ t.epsilon) None (filter (λ t. is_over s j t.round) (tunings j)) (λ t none. absurd cc)
    (All-filter (λ t. is_over s j t.round) (λ (t : Tuning). pos 0 ≤ℤ t.epsilon) (tunings j) (tunings_from_zero s.monitors j there)))

-- a list of places has one for each feeder
few_places : (s : StoryView) (cut : List (List ℕ)) → IsStory s → IsCut s.logs.logs cut → All (λ places. length places < 2 ^ 32) cut
few_places s cut is is_cut k d within =
    let at : k < length s.logs.logs = omega (arith, within, is_cut.shape) in
    let shape : length (get_or cut k []) ≡ length (get_or s.logs.logs k []) = (is_cut.each k).shape in
    let few : length (get_or s.logs.logs k []) ≤ 8 = (is.logs.each k [] at).feeders in
    let same : get_or cut k d ≡ get_or cut k [] = get_or_default cut k d [] within in
    omega (arith, shape, few, ap (λ (ps : List ℕ). length ps) same)

publication_can : (s : StoryView) (before after : List Noted) (p : Publication) → IsStory s → s.journal ≡ before ++ n.Published p ∷ after → IsPublishable s.settings before p → All (IsThere s.settings.monitors) before → CanBePublished s.settings.monitors p
publication_can s before after p is at can there =
    let valid = published_holds s is p (record { before = before; after = after; is = at }) in
    let own : p.epsilon ≡ (in_force s.settings before).epsilon = ap (λ (q : Publication). q.epsilon) can.says in
    record {
      epsilon = subst (λ (z : ℤ). pos 0 ≤ℤ z) (sym own) (force_from_zero s.settings before is.limits.no_debt there);
      members = omega (arith, objects_few s.settings.objects p.members valid.ascends (λ k d within. positive p.members valid.ascends k d within) valid.within, is.limits.objects);
      monitors = valid.is_cut.shape ∙ is.monitors;
      places = few_places s p.cut is valid.is_cut;
    }
  where
    positive : (xs : List ℕ) → IsAscending xs → (k d : ℕ) → k < length xs → 0 < get_or xs k d
    positive xs ascends k d within = subst (λ (x : ℕ). 0 < x) (get_or_default xs k 0 d within) (ascending_positive xs ascends k within)

-- ---- all entries

noted_can : (s : StoryView) (before after : List Noted) (e : Noted) → IsStory s → s.journal ≡ before ++ e ∷ after → IsThere s.settings.monitors e → IsSentWell e → IsSaidWell s.settings before e → All (IsThere s.settings.monitors) before
    → ((mon : ℕ) → IsMonitor s.settings mon → (x : Frame) → got_from mon e ≡ Some x → CanBeSpelled x) → CanBeNoted s.settings.monitors e
noted_can s before after (n.Got from frame) is at there well said earlier got =
    (there, got from.0 (record { from_one = there.0; within = there.1 }) frame (ap (λ (b : Bool). cond b (Some frame) None) (eq-eqb from.0 from.0 refl)))
noted_can s before after (n.Sent to frame) is at there well said earlier got = (there, well)
noted_can s before after (n.Published p) is at there well said earlier got = publication_can s before after p is at said earlier
noted_can s before after (n.Tuned k epsilon) is at there well said earlier got = there

pub journal_can : (s : StoryView) → IsStory s → All (CanBeNoted s.settings.monitors) s.journal
journal_can s is k d within =
    let j = s.journal in
    let o = start s.settings in
    let set = start_set_up s.settings is.limits in
    let there = journal_there o j set is.journal_legal in
    let each = (legal_well o j set is.journal_legal).each in
    let well = all_sent_well s.settings [] j each (legal_firm o j set is.journal_legal).short in
    noted_can s (take k j) (drop (k + 1) j) (get_or j k d) is (split_at j k d within) (there k d within) (well k d within) (each_place (IsSaidWell s.settings) [] j each k d within)
    (All-take (IsThere s.settings.monitors) k j there) (λ mon m x at. got_can s mon is m k d within x at)

entered_can : (setup : MonitorSetup) (before after : List Entry) (e : Entry) → IsLegalTrail setup (before ++ e ∷ after) → IsSaidSo e → ((x : Frame) → taken_in e ≡ Some x → CanBeSpelled x) → CanBeEntered (length setup.parts) e
entered_can setup before after (Raised feeder) legal so took = let next = (allowed_at setup before after (Raised feeder) legal).2 in (next.from_one, next.one_of)
entered_can setup before after (Took frame) legal so took = took frame refl
entered_can setup before after (Sent frame) legal so took = so

pub trail_can : (s : StoryView) (mon : ℕ) → IsStory s → IsMonitor s.settings mon → All (CanBeEntered (length (parts_of s.logs.logs mon))) (trail_of s mon)
trail_can s mon is there k d within =
    let trail = trail_of s mon in
    let setup = setup_of s mon in
    let legal = is.trails_legal mon there in
    let split = split_at trail k d within in
    entered_can setup (take k trail) (drop (k + 1) trail) (get_or trail k d) (subst (IsLegalTrail setup) split legal) (all_said setup trail (setup_is s is mon there) legal k d within) (taken_can s mon is there k d within)

-- ---- as the code hands them over

pub journal_given : (s : StoryView) (many : ℕ) (j : List Noted) → IsStory s → many ≡ s.settings.monitors → j ≡ s.journal → All (CanBeNoted many) j
journal_given s many j is count same = subst (λ (xs : List Noted). All (CanBeNoted many) xs) (sym same) (subst (λ (m : ℕ). All (CanBeNoted m) s.journal) (sym count) (journal_can s is))

pub trail_is : (s : StoryView) (mon : ℕ) (x : List Entry) → slice_get s.trails (mon - 1) ≡ Some x → x ≡ trail_of s mon
trail_is s mon x is = sym (get_or_from_slice_get s.trails (mon - 1) x [] is)

pub trail_given : (s : StoryView) (mon feeders : ℕ) (x : List Entry) → IsStory s → IsMonitor s.settings mon → feeders ≡ length (parts_of s.logs.logs mon) → slice_get s.trails (mon - 1) ≡ Some x → All (CanBeEntered feeders) x
trail_given s mon feeders x is there count at =
    subst (λ (t : List Entry). All (CanBeEntered feeders) t) (sym (trail_is s mon x at)) (subst (λ (k : ℕ). All (CanBeEntered k) (trail_of s mon)) (sym count) (trail_can s mon is there))

-- The numbers of rounds: those of the Collects to a monitor rise, and each names how many rounds were opened.
use Rattle.tk_frames.specs.declared.frame.Frame.TheVariants as f
use Rattle.tk_journal.specs.declared.noted.Noted.TheVariants as n
use Rattle.std.proofs.Common.{◌≡◌, ℕ, suc, zero, ◌+◌, ◌≤◌, ◌<◌, ◌==◌, ℤ, Bool, true, false, List, [], ◌∷◌, ◌++◌, map, Contains, Option, Some, None, refl, sym, ap, ◌∙◌, subst, arith, append-nil, inl, inr}
use Rattle.std.specs.Prelude.{fold, is_some, replicate, if◌then◌else◌}
use Rattle.std.specs.List.{cons_option, enumerate_from, filter_map}
use Rattle.std.proofs.lemmas.Bool.{cases_lt, eq-eqb, true≢false}
use Rattle.std.proofs.lemmas.List.Elements.{filter_map-append}
use Rattle.tk_base.specs.Ascending.{IsAscending}
use Rattle.tk_base.specs.History.{EachFrom}
use Rattle.tk_base.specs.Objects.{objects, is_in}
use Rattle.tk_base.specs.Pairs.{objects_of}
use Rattle.tk_base.specs.Settings.{Setup}
use Rattle.tk_base.specs.declared.ids.Mon.{Mon}
use Rattle.tk_base.proofs.HistoryLemmas.{each_join}
use Rattle.tk_border.proofs.RisingLemmas.{Rises, ascends}
use Rattle.tk_frames.specs.declared.frame.Frame.{Frame}
use Rattle.tk_journal.specs.Deciding.{Decided, reports_at}
use Rattle.tk_journal.specs.Kinds.{is_full_kind, opens_wide, turned, turns_of}
use Rattle.tk_journal.specs.Laws.{IsSetUp}
use Rattle.tk_journal.specs.Legal.{IsAccepted, IsLegal, Opening, opened, turn_of}
use Rattle.tk_journal.specs.Links.{frames_to}
use Rattle.tk_journal.specs.Publishing.{closing, is_due, is_last, publication_at, stops}
use Rattle.tk_journal.specs.Readings.{asked_by, asked_of, last_round, monitors}
use Rattle.tk_journal.specs.RoundEnds.{NamesItsRound, openings, round_asked, rounds_to}
use Rattle.tk_journal.specs.Shapes.{Shape}
use Rattle.tk_journal.specs.Shapes.Shape.{Plain, Short, Wide, Full, LoneEnd, LoneWide, EndFull, EndOver, EndWide}
use Rattle.tk_journal.specs.Turns.{assigns, collects, demanded, full_at, kind_of, reported, rounds, short_at, wide_at}
use Rattle.tk_journal.specs.declared.noted.Noted.{Noted}
use Rattle.tk_journal.specs.declared.publication.Publication.{Publication}
use Rattle.tk_journal.proofs.Appends.{frames_to-append, walk-append}
use Rattle.tk_journal.proofs.AskedLemmas.{named_once, named_times}
use Rattle.tk_journal.proofs.Batches.{named}
use Rattle.tk_journal.proofs.Counting.{AreCounted, collects_count}
use Rattle.tk_journal.proofs.GrowLemmas.{Grows, grows, range_rises, with_got}
use Rattle.tk_journal.proofs.GrowLemmas.Grows.{Nothing, ToOne, ToAll, Asks}
use Rattle.tk_journal.proofs.KindLemmas.{count-append, demanded_rounds, goes, rounds_read}
use Rattle.tk_journal.proofs.LawLemmas.{one_less}
use Rattle.tk_journal.proofs.LegalLemmas.{FrameTurn, by_parts, legal_carries, opened_orderly, orderly_parts, orderly_tuned, tuned_round}
use Rattle.tk_journal.proofs.Orderly.{IsOrderly, Row, orderly_got, sends}
use Rattle.tk_journal.proofs.Pieces.{batch}
use Rattle.tk_journal.proofs.ShapeLemmas.{shape}
use Rattle.tk_journal.proofs.WholeLemmas.{by_turns}

-- ---- what rises goes on by a greater number

rises-push : (b : ℕ) (xs : List ℕ) (r : ℕ) → Rises b xs → b < r → ((x : ℕ) → Contains xs x → x < r) → Rises b (xs ++ r ∷ [])
rises-push b [] r up low each = (low, tt)
rises-push b (x ∷ xs) r up low each = (up.0, rises-push x xs r up.1 (each x (zero, omega arith, refl)) (λ y in'. each y (suc in'.0, (let h = in'.1 in omega (arith, h)), in'.2)))

-- ---- the rounds that a monitor was asked for

rounds_to-append : (mon : ℕ) (a b : List Noted) → rounds_to mon (a ++ b) ≡ rounds_to mon a ++ rounds_to mon b
rounds_to-append mon a b = ap (filter_map round_asked) (frames_to-append mon a b) ∙ filter_map-append round_asked (frames_to mon a) (frames_to mon b)

asked_one : (own : Bool) (round : ℕ) (asked : List ℕ) (frames : List Frame) → filter_map round_asked (cons_option (if own then Some (f.Collect round asked) else None) frames) ≡ replicate (if own then 1 else 0) round ++ filter_map round_asked frames
asked_one true round asked frames = refl
asked_one false round asked frames = refl

replicate_more : (b : Bool) (k r : ℕ) → replicate (if b then 1 else 0) r ++ replicate k r ≡ replicate ((if b then 1 else 0) + k) r
replicate_more true k r = ap (λ n. replicate n r) (let e : suc k ≡ 1 + k = omega arith in e)
replicate_more false k r = ap (λ n. replicate n r) (let e : k ≡ 0 + k = omega arith in e)

asked_rounds : (mon round : ℕ) (asked mons : List ℕ) → rounds_to mon (collects round asked mons) ≡ replicate (named_times mons mon) round
asked_rounds mon round asked [] = refl
asked_rounds mon round asked (m ∷ mons) =
    asked_one (m == mon) round asked (frames_to mon (collects round asked mons)) ∙ ap (λ xs. replicate (if m == mon then 1 else 0) round ++ xs) (asked_rounds mon round asked mons) ∙ replicate_more (m == mon) (named_times mons mon) round

plain_one : (own : Bool) (frame : Frame) (frames : List Frame) → round_asked frame ≡ None → filter_map round_asked (cons_option (if own then Some frame else None) frames) ≡ filter_map round_asked frames
plain_one true frame frames none = ap (λ x. cons_option x (filter_map round_asked frames)) none
plain_one false frame frames none = refl

plain_rounds : {A : Type 0} (mon : ℕ) (to : A → ℕ) (frame : A → Frame) (rows : List A) → ((d : A) → round_asked (frame d) ≡ None) → rounds_to mon (batch to frame rows) ≡ []
plain_rounds mon to frame [] none = refl
plain_rounds mon to frame (d ∷ rows) none = plain_one (to d == mon) (frame d) (frames_to mon (batch to frame rows)) (none d) ∙ plain_rounds mon to frame rows none

closing_none : (s : Setup) (mon : ℕ) (due last : Bool) (p : Publication) → rounds_to mon (if due then n.Published p ∷ (if last then stops s else []) else []) ≡ []
closing_none s mon true true p = plain_rounds mon (λ (m : ℕ). m) (λ _. f.Stop) (monitors s) (λ _. refl)
closing_none s mon true false p = refl
closing_none s mon false last p = refl

closing_rounds : (s : Setup) (j : List Noted) (mon : ℕ) → rounds_to mon (closing s j) ≡ []
unfolding closing
closing_rounds s j mon = closing_none s mon (is_due s j) (is_last s j) (publication_at s j)

-- ---- none of them is past the last round

stays_some : {A : Type 0} (x : A) (ys : List A) → is_some (fold (λ _ e. Some e) (Some x) ys) ≡ true
stays_some x [] = refl
stays_some x (y ∷ ys) = stays_some y ys

some_more : {A : Type 0} (o start : Option A) (ys : List A) → ((s : Option A) → is_some (fold (λ _ e. Some e) s ys) ≡ true) → is_some (fold (λ _ e. Some e) start (cons_option o ys)) ≡ true
some_more None start ys each = each start
some_more (Some x) start ys each = each (Some x)

some_here : {A : Type 0} (b : Bool) (x : A) (start : Option A) (ys : List A) → b ≡ true → is_some (fold (λ _ e. Some e) start (cons_option (if b then Some x else None) ys)) ≡ true
some_here true x start ys is = stays_some x ys
some_here false x start ys is = cc

asked_there : (round : ℕ) (frames : List Frame) (start : Option (List ℕ)) → Contains (filter_map round_asked frames) round → is_some (fold (λ _ e. Some e) start (filter_map (asked_by round) frames)) ≡ true
asked_there round [] start (k, below, is) = absurd (omega (arith, below))
asked_there round (f.Collect r asked ∷ frames) start (zero, below, is) = some_here (r == round) asked start (filter_map (asked_by round) frames) (eq-eqb r round is)
asked_there round (f.Collect r asked ∷ frames) start (suc k, below, is) =
    some_more (asked_by round (f.Collect r asked)) start (filter_map (asked_by round) frames) (λ s. asked_there round frames s (k, omega (arith, below), is))
asked_there round (f.Hello run version m ∷ frames) start in' = asked_there round frames start in'
asked_there round (f.Report seq border failed values ∷ frames) start in' = asked_there round frames start in'
asked_there round (f.Values r seq border values ∷ frames) start in' = asked_there round frames start in'
asked_there round (f.Assign seq members changes ∷ frames) start in' = asked_there round frames start in'
asked_there round (f.Settled seq last places ∷ frames) start in' = asked_there round frames start in'
asked_there round (f.Stop ∷ frames) start in' = asked_there round frames start in'

none_past : (s : Setup) (j : List Noted) (mon round : ℕ) → AreCounted s j → Contains (rounds_to mon j) round → round ≤ last_round j
unfolding asked_of
none_past s j mon round counted in' = elim (cases_lt (last_round j) round) [
  | inl late ↦ absurd (true≢false (sym (asked_there round (frames_to mon j) None in') ∙ ap is_some (counted.asked round mon late)))
  | inr within ↦ within
]

-- ---- they rise

abbrev Rising : List Noted → Type 0
Rising j = (mon : ℕ) → Rises 0 (rounds_to mon j)

nothing_more : (a b : List Noted) → Rising a → ((mon : ℕ) → rounds_to mon b ≡ []) → Rising (a ++ b)
nothing_more a b up none mon = subst (Rises 0) (sym (rounds_to-append mon a b ∙ ap (λ xs. rounds_to mon a ++ xs) (none mon) ∙ append-nil (rounds_to mon a))) (up mon)

one_more : (s : Setup) (j : List Noted) (round mon : ℕ) (b : Bool) → AreCounted s j → last_round j < round → Rises 0 (rounds_to mon j) → Rises 0 (rounds_to mon j ++ replicate (if b then 1 else 0) round)
one_more s j round mon true counted new up = rises-push 0 (rounds_to mon j) round up (omega (arith, new)) (λ x in'. let h = none_past s j mon x counted in' in omega (arith, h, new))
one_more s j round mon false counted new up = subst (Rises 0) (sym (append-nil (rounds_to mon j))) up

asks_more : (s : Setup) (j : List Noted) (round : ℕ) (asked mons : List ℕ) → Rises 0 mons → AreCounted s j → last_round j < round → Rising j → Rising (j ++ collects round asked mons)
asks_more s j round asked mons rising counted new up mon =
    let sent : rounds_to mon (collects round asked mons) ≡ replicate (if is_in mons mon then 1 else 0) round = asked_rounds mon round asked mons ∙ ap (λ k. replicate k round) (named_once 0 mon mons rising) in
    subst (Rises 0) (sym (rounds_to-append mon j (collects round asked mons) ∙ ap (λ xs. rounds_to mon j ++ xs) sent)) (one_more s j round mon (is_in mons mon) counted new (up mon))

sends_none : (mon : ℕ) (j : List Noted) (members : List ℕ) (rows : List Row) → rounds_to mon (sends j members rows) ≡ []
sends_none mon j members rows = plain_rounds mon (λ (d : Row). d.0) (named (λ d. Rattle.tk_journal.specs.Readings.assigns_sent d.0 j + 1) members (λ d. d.1)) rows (λ _. refl)

grown : (s : Setup) (before : List Noted) (from : Mon) (frame : Frame) (after : List Noted) → Grows s before from frame after → IsOrderly s (with_got before from frame) → Rising (with_got before from frame) → Rising after
grown s before from frame after (Nothing e same resting) o up = subst Rising (sym e) up
grown s before from frame after (ToOne members row border failed values fresh node was closed e) o up = subst Rising (sym e) (nothing_more (with_got before from frame) (sends (with_got before from frame) members (row ∷ [])) up (λ mon. sends_none mon (with_got before from frame) members (row ∷ [])))
grown s before from frame after (ToAll members rows cause nodes closed e) o up = subst Rising (sym e) (nothing_more (with_got before from frame) (sends (with_got before from frame) members rows) up (λ mon. sends_none mon (with_got before from frame) members rows))
grown s before from frame after (Asks round asked q mons rising closed new e opened') o up = subst Rising (sym e) (asks_more s (with_got before from frame) round asked (q ∷ mons) rising o.counted new up)

record IsRising (s : Setup) (j : List Noted) : Type 0 where
  order : IsOrderly s j
  rising : Rising j

rising_parts : (s : Setup) (k : ℕ) → s.monitors ≡ suc k → FrameTurn s (IsRising s)
rising_parts s k some = record {
  demands = λ before from frame range none h. record {
    order = (orderly_parts s k some).demands before from frame range none h.order;
    rising = grown s before from frame (with_got before from frame ++ demanded s before from.0 frame) (grows s before from frame k some range none h.order) (orderly_got s before from frame none h.order) (nothing_more before (n.Got from frame ∷ []) h.rising (λ _. refl));
  };
  closes = λ j h. record {
    order = (orderly_parts s k some).closes j h.order;
    rising = nothing_more j (closing s j) h.rising (closing_rounds s j);
  };
  tunes = λ before q epsilon accepted h. record {
    order = (orderly_parts s k some).tunes before q epsilon accepted h.order;
    rising = (let o = orderly_tuned s before q epsilon h.order in
        asks_more s (before ++ n.Tuned q epsilon ∷ []) (rounds s before + 1) (objects s.objects) (monitors s) (range_rises s.monitors) o.counted (let t = tuned_round before q epsilon in let l = h.order.counted.last in omega (arith, t, l))
        (nothing_more before (n.Tuned q epsilon ∷ []) h.rising (λ _. refl)));
  };
}

opened_rising : (o : Opening) → Rising (opened o)
opened_rising o mon = subst (Rises 0) (sym (plain_rounds mon (λ (p : ℕ × List (ℕ × ℤ)). p.0) (named (λ _. 1) o.members (λ p. p.1)) (enumerate_from 1 o.factors) (λ _. refl))) tt

pub collects_rise : (o : Opening) (j : List Noted) (mon : ℕ) → IsSetUp o → IsLegal o j → IsAscending (rounds_to mon j)
collects_rise o j mon set legal =
    let s = o.settings in
    let k = one_less s.monitors set.limits.some_monitor in
    ascends (rounds_to mon j) ((legal_carries o (IsRising s) (by_parts s (IsRising s) (rising_parts s k.0 k.1)) (record { order = opened_orderly o k.0 k.1 set.factors; rising = opened_rising o }) j legal).rising mon)

-- ---- each names how many rounds were opened

turns_sent : (s : Setup) (j : List Noted) (to : Mon) (frame : Frame) → turns_of s (j ++ n.Sent to frame ∷ []) ≡ turns_of s j
unfolding turns_of
turns_sent s j to frame = walk-append (goes s) [] [] j (n.Sent to frame ∷ []) ∙ append-nil (turns_of s j)

turns_got : (s : Setup) (j : List Noted) (from : Mon) (frame : Frame) → turns_of s (j ++ n.Got from frame ∷ []) ≡ turns_of s j ++ turned s j (n.Got from frame)
unfolding turns_of
turns_got s j from frame = walk-append (goes s) [] [] j (n.Got from frame ∷ [])

turns_tuned : (s : Setup) (j : List Noted) (k : ℕ) (epsilon : ℤ) → turns_of s (j ++ n.Tuned k epsilon ∷ []) ≡ turns_of s j ++ turned s j (n.Tuned k epsilon)
unfolding turns_of
turns_tuned s j k epsilon = walk-append (goes s) [] [] j (n.Tuned k epsilon ∷ [])

abbrev Names : Setup → List Noted → List Noted → Type 0
Names s before entries = EachFrom (NamesItsRound s) before entries

names_collects : (s : Setup) (x : List Noted) (round : ℕ) (asked mons : List ℕ) → round ≡ openings (turns_of s x) → Names s x (collects round asked mons)
names_collects s x round asked [] is = tt
names_collects s x round asked (m ∷ mons) is =
    let sent : Noted = n.Sent (record { 0 = m }) (f.Collect round asked) in
    (is, names_collects s (x ++ sent ∷ []) round asked mons (is ∙ ap openings (sym (turns_sent s x (record { 0 = m }) (f.Collect round asked)))))

names_assigns : {A : Type 0} (s : Setup) (x : List Noted) (to seq : A → ℕ) (members : List ℕ) (changes : A → List (ℕ × ℤ)) (rows : List A) → Names s x (batch to (named seq members changes) rows)
names_assigns s x to seq members changes [] = tt
names_assigns s x to seq members changes (d ∷ rows) = (tt, names_assigns s (x ++ n.Sent (record { 0 = to d }) (named seq members changes d) ∷ []) to seq members changes rows)

names_decided : (s : Setup) (x j : List Noted) (decided : Decided) → Names s x (assigns j decided)
names_decided s x j decided = names_assigns s x (λ (d : Row). d.0) (λ d. Rattle.tk_journal.specs.Readings.assigns_sent d.0 j + 1) decided.members (λ d. d.1) (Rattle.std.specs.Prelude.drop 1 decided.dealt)

names_stops : (s : Setup) (x : List Noted) (mons : List ℕ) → Names s x (map (λ mon. n.Sent (record { 0 = mon }) f.Stop) mons)
names_stops s x [] = tt
names_stops s x (m ∷ mons) = (tt, names_stops s (x ++ n.Sent (record { 0 = m }) f.Stop ∷ []) mons)

ends_named : (s : Setup) (x : List Noted) (due last : Bool) (p : Publication) → Names s x (if due then n.Published p ∷ (if last then stops s else []) else [])
ends_named s x true true p = (tt, names_stops s (x ++ n.Published p ∷ []) (monitors s))
ends_named s x true false p = (tt, tt)
ends_named s x false last p = tt

names_closing : (s : Setup) (x j : List Noted) → Names s x (closing s j)
unfolding closing
names_closing s x j = ends_named s x (is_due s j) (is_last s j) (publication_at s j)

one_of : (b : Bool) → 0 + Rattle.std.specs.Prelude.cond b 1 0 ≡ (if b then 1 else 0)
one_of true = refl
one_of false = refl

-- the openings up to a taken frame are the rounds at the end of what it demands
openings_got : (s : Setup) (before : List Noted) (k : ℕ) (from : Mon) (frame : Frame) → s.monitors ≡ suc k → rounds s before ≡ openings (turns_of s before)
    → rounds s (with_got before from frame ++ demanded s before from.0 frame) ≡ openings (turns_of s (with_got before from frame))
openings_got s before k from frame some read =
    let e = demanded_rounds s before k from frame some in
    let go = ap openings (turns_got s before from frame) in
    let a = count-append (λ t. is_full_kind t.kind) (turns_of s before) (turned s before (n.Got from frame)) in
    let b = count-append (λ t. t.widens) (turns_of s before) (turned s before (n.Got from frame)) in
    let full = one_of (is_full_kind (kind_of s before from.0 frame)) in
    let wide = one_of (opens_wide s before from.0 frame) in
    omega (arith, e, go, a, b, full, wide, read)

names_asked : (s : Setup) (before : List Noted) (k : ℕ) (from : Mon) (frame : Frame) (demands : List Noted) (round : ℕ) (asked mons : List ℕ) → s.monitors ≡ suc k → rounds s before ≡ openings (turns_of s before)
    → demanded s before from.0 frame ≡ collects round asked mons → Names s (with_got before from frame) (collects round asked mons)
names_asked s before k from frame demands round asked [] some read is = tt
names_asked s before k from frame demands round asked (q ∷ mons) some read is =
    let now = with_got before from frame in
    names_collects s now round asked (q ∷ mons) (sym (collects_count s now round asked q mons) ∙ ap (λ xs. rounds s (now ++ xs)) (sym is) ∙ openings_got s before k from frame some read)

names_demands : (s : Setup) (before : List Noted) (k : ℕ) (from : Mon) (frame : Frame) (demands : List Noted) → s.monitors ≡ suc k → rounds s before ≡ openings (turns_of s before) → demands ≡ demanded s before from.0 frame
    → Shape s before from frame demands → Names s (with_got before from frame) demands
names_demands s before k from frame demands some read e (Plain is fails same resting) = subst (Names s (with_got before from frame)) (sym is) tt
names_demands s before k from frame demands some read e (Short border failed values fresh passes within is) = subst (Names s (with_got before from frame)) (sym is) (names_decided s (with_got before from frame) before (short_at s before (reported from.0 border values)))
names_demands s before k from frame demands some read e (Wide border failed values fresh is) = subst (Names s (with_got before from frame)) (sym is) (names_asked s before k from frame demands _ (objects s.objects) (monitors s) some read (sym e ∙ is))
names_demands s before k from frame demands some read e (Full border failed values fresh fails few lone is) = subst (Names s (with_got before from frame)) (sym is) (names_asked s before k from frame demands _ (objects_of values) _ some read (sym e ∙ is))
names_demands s before k from frame demands some read e (LoneEnd border failed values fresh fails few lone within is) = subst (Names s (with_got before from frame)) (sym is) (names_decided s (with_got before from frame) before (full_at s before (reported from.0 border values ∷ [])))
names_demands s before k from frame demands some read e (LoneWide border failed values fresh fails few lone is) = subst (Names s (with_got before from frame)) (sym is) (names_asked s before k from frame demands _ (objects s.objects) (monitors s) some read (sym e ∙ is))
names_demands s before k from frame demands some read e (EndFull last full within is) = subst (Names s (with_got before from frame)) (sym is) (names_decided s (with_got before from frame) (with_got before from frame) (full_at s (with_got before from frame) (reports_at s (with_got before from frame))))
names_demands s before k from frame demands some read e (EndOver last full is) = subst (Names s (with_got before from frame)) (sym is) (names_asked s before k from frame demands _ (objects s.objects) (monitors s) some read (sym e ∙ is))
names_demands s before k from frame demands some read e (EndWide last wide is) = subst (Names s (with_got before from frame)) (sym is) (names_decided s (with_got before from frame) (with_got before from frame) (wide_at s (with_got before from frame) (reports_at s (with_got before from frame))))

names_turn : (s : Setup) (before : List Noted) (k : ℕ) (input : Noted) → s.monitors ≡ suc k → rounds s before ≡ openings (turns_of s before) → IsAccepted s before input → Names s before (turn_of s before input)
unfolding turn_of
names_turn s before k (n.Got from frame) some read accepted =
    let demands = demanded s before from.0 frame in (
      tt,
      each_join (NamesItsRound s) (with_got before from frame) demands (closing s (before ++ n.Got from frame ∷ demands))
          (names_demands s before k from frame demands some read refl (shape s before from frame (record { from_one = accepted.0; within = accepted.1 }) accepted.2))
          (names_closing s (with_got before from frame ++ demands) (before ++ n.Got from frame ∷ demands)),
    )
names_turn s before k (n.Tuned q epsilon) some read accepted =
    let now = before ++ n.Tuned q epsilon ∷ [] in (
      tt,
      names_collects s now (rounds s before + 1) (objects s.objects) (monitors s)
          (let go = ap openings (turns_tuned s before q epsilon) in
          let a = count-append (λ t. is_full_kind t.kind) (turns_of s before) (turned s before (n.Tuned q epsilon)) in
          let b = count-append (λ t. t.widens) (turns_of s before) (turned s before (n.Tuned q epsilon)) in
          omega (arith, go, a, b, read)),
    )
names_turn s before k (n.Sent to frame) some read accepted = absurd accepted
names_turn s before k (n.Published publication) some read accepted = absurd accepted

pub rounds_named : (o : Opening) (j : List Noted) → IsSetUp o → IsLegal o j → EachFrom (NamesItsRound o.settings) [] j
rounds_named o j set legal =
    let s = o.settings in
    let k = one_less s.monitors set.limits.some_monitor in
    by_turns o (λ xs. Names s [] xs)
    (λ before input accepted front h. each_join (NamesItsRound s) [] before (turn_of s before input) h (names_turn s before k.0 input k.1 (rounds_read o before set front) accepted))
    (names_assigns s [] (λ (p : ℕ × List (ℕ × ℤ)). p.0) (λ _. 1) o.members (λ p. p.1) (enumerate_from 1 o.factors)) j legal

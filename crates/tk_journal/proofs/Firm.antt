-- Every legal journal is sound: the turns.
use Rattle.std.proofs.Common.{◌≡◌, ℕ, suc, false, ◌+◌, ◌≤◌, ◌<◌, List, [], ◌∷◌, ◌++◌, length, map, drop, Contains, None, refl, sym, ap, ◌∙◌, subst, arith}
use Rattle.std.specs.List.{All, range_with_len}
use Rattle.std.proofs.lemmas.Int.{ints}
use Rattle.std.proofs.lemmas.Bool.{true≢false}
use Rattle.std.proofs.lemmas.List.{length-map}
use Rattle.std.proofs.lemmas.List.Elements.{All-contains, All-head}
use Rattle.std.proofs.lemmas.List.FromFn.{length-range_with_len}
use Rattle.tk_base.specs.Objects.{objects}
use Rattle.tk_base.specs.Ascending.{IsAscending}
use Rattle.tk_base.specs.Settings.{Setup, IsWithinLimits}
use Rattle.tk_base.specs.declared.ids.Mon.{Mon}
use Rattle.tk_border.proofs.RisingLemmas.{ascends}
use Rattle.tk_rows.specs.Factors.{Grid}
use Rattle.tk_rows.proofs.WritingLemmas.{ascending_are_apart}
use Rattle.tk_frames.specs.declared.frame.Frame.{Frame}
use Rattle.tk_frames.specs.declared.frame.Frame.TheVariants as f
use Rattle.tk_alloc.specs.declared.reported.Reported.{Reported}
use Rattle.tk_alloc.specs.Rounds.{IsOfSize, AreValues}
use Rattle.tk_alloc.specs.Resolving.{IsReady, CanTakePart, MeetsOwn, objects_over}
use Rattle.tk_alloc.proofs.FullLemmas.{IsCalled, held_length}
use Rattle.tk_alloc.proofs.WideLemmas.{of_catalogue, in_catalogue}
use Rattle.tk_journal.specs.Laws.{IsMonitor, AreSentShort}
use Rattle.tk_journal.specs.Readings.{monitors, assigns_sent, members_at, table_at, last_round, is_open, tunings, tuned_to, in_force}
use Rattle.tk_base.specs.History.{last_of}
use Rattle.tk_journal.specs.Deciding.{Decided}
use Rattle.tk_journal.specs.Turns.{collects, wide_collects, assigns, is_wide}
use Rattle.tk_journal.specs.Refusal.{refusal_of}
use Rattle.tk_journal.specs.declared.noted.Noted.{Noted}
use Rattle.tk_journal.specs.declared.noted.Noted.TheVariants as n
use Rattle.tk_journal.proofs.Pieces.{got_assigns, got_members, got_round, got_asked}
use Rattle.tk_journal.proofs.Batches.{plain_assigns, plain_members, collects_round}
use Rattle.tk_journal.proofs.Same.{AreSame, tunings-append}
use Rattle.tk_journal.proofs.Counting.{AreCounted, named_round, named_asked}
use Rattle.tk_journal.proofs.Rounding.{is_in_range}
use Rattle.tk_journal.proofs.Content.{all_by}
use Rattle.tk_journal.proofs.Tables.{IsObject, AreSized, own_is, rows_count, table_size, table_balanced}
use Rattle.tk_journal.proofs.Tuning.{AreTuned, EachTuning, IsOpened, collects_tunings, tuned_by, tuned_later, wide_by, force_by, force_limits, force_objects, force_monitors, force_closed, force_past}
use Rattle.tk_journal.proofs.Standing.{IsStanding, AreAgreed, standing_agreed, agreed_same, object_of}
use Rattle.tk_journal.proofs.Ending.{IsFullAt, IsWideAt, chosen_count, sent_tunings, wide_ascends}
use Rattle.tk_journal.proofs.Orderly.{IsOrderly, Row, open_named}
use Rattle.tk_journal.proofs.Sizes.{short-append, collects_short, objects_few}
use Rattle.tk_journal.proofs.Sound.{IsRoundOver, HasRound, no_round, round_same, round_got, round_collects}

pub record IsFirm (s : Setup) (j : List Noted) : Type 0 where
  pub tuned : AreTuned s j
  pub standing : IsStanding s j
  pub round : HasRound s j
  pub short : AreSentShort j

-- ---- entries that change none of it

pub firm_same : (s : Setup) (a b : List Noted) → AreSame s a b → AreSentShort b → IsFirm s a → IsFirm s b
firm_same s a b e sent h = record {
  tuned = tuned_by s a b e.round (wide_by s a b e.round e.asked) e.tuned h.tuned;
  standing = standing_agreed s a b (agreed_same s a b e) h.standing;
  round = round_same s a b e h.round;
  short = sent;
}

-- ---- a taken frame

pub got_tunings : (j : List Noted) (from : Mon) (frame : Frame) → tunings (j ++ n.Got from frame ∷ []) ≡ tunings j
got_tunings j from frame = tunings-append j (n.Got from frame ∷ []) refl refl

pub got_tuned : (s : Setup) (j : List Noted) (from : Mon) (frame : Frame) → AreTuned s j → AreTuned s (j ++ n.Got from frame ∷ [])
got_tuned s j from frame t =
    tuned_by s j (j ++ n.Got from frame ∷ []) (got_round j from frame) (wide_by s j (j ++ n.Got from frame ∷ []) (got_round j from frame) (λ q mon. got_asked q mon j from frame)) (got_tunings j from frame) t

pub got_agreed : (s : Setup) (j : List Noted) (from : Mon) (frame : Frame) → in_force s (j ++ n.Got from frame ∷ []) ≡ in_force s j → AreAgreed s j (j ++ n.Got from frame ∷ [])
got_agreed s j from frame force = record { assigns = λ mon. got_assigns mon j from frame; members = got_members j from frame; force = force }

pub open_force : (s : Setup) (j : List Noted) (from : Mon) (frame : Frame) → is_open s (j ++ n.Got from frame ∷ []) ≡ is_open s j → in_force s (j ++ n.Got from frame ∷ []) ≡ in_force s j
open_force s j from frame same = force_by s j (j ++ n.Got from frame ∷ []) (got_round j from frame) same (got_tunings j from frame)

-- where it ends no round
pub firm_got : (s : Setup) (j : List Noted) (from : Mon) (frame : Frame) → IsMonitor s from.0 → refusal_of s j from.0 frame ≡ None → is_open s (j ++ n.Got from frame ∷ []) ≡ is_open s j
    → IsOrderly s j → IsFirm s j → IsFirm s (j ++ n.Got from frame ∷ [])
firm_got s j from frame range none same o h = record {
  tuned = got_tuned s j from frame h.tuned;
  standing = standing_agreed s j (j ++ n.Got from frame ∷ []) (got_agreed s j from frame (open_force s j from frame same)) h.standing;
  round = λ is. let before = sym same ∙ is in let r = h.round before in (r.0, round_got s j r.0 from frame range none before o.openers r.1);
  short = short-append j (n.Got from frame ∷ []) h.short tt;
}

-- ---- Collects

-- asking for values leaves the settings in force
pub collects_force : (s : Setup) (j : List Noted) (round : ℕ) (all : List ℕ) (q : ℕ) (mons : List ℕ) → is_open s j ≡ false → AreTuned s j → last_round j < round → in_force s (j ++ collects round all (q ∷ mons)) ≡ in_force s j
collects_force s j round all q mons closed t new =
    let after = j ++ collects round all (q ∷ mons) in
    let list = collects_tunings s j round all (q ∷ mons) t in
    force_past s after (last_round j) (is_wide s j) (subst (λ ts. EachTuning (IsOpened s (last_round j) (is_wide s j)) ts) (sym list) t) (let l = collects_round j round all q mons in omega (arith, l, new))
    ∙ ap (λ ts. tuned_to s (last_of ts)) list
    ∙ sym (force_closed s j closed t)

pub firm_collects : (s : Setup) (j : List Noted) (round : ℕ) (all : List ℕ) (q : ℕ) (mons : List ℕ) → s.objects ≤ 65536 → is_open s j ≡ false → last_round j < round
    → IsRoundOver s (j ++ collects round all (q ∷ mons)) all → IsFirm s j → IsFirm s (j ++ collects round all (q ∷ mons))
firm_collects s j round all q mons few closed new r h =
    let after = j ++ collects round all (q ∷ mons) in
    record {
      tuned = tuned_later s j after (let l = collects_round j round all q mons in omega (arith, l, new)) (collects_tunings s j round all (q ∷ mons) h.tuned) h.tuned;
      standing = standing_agreed s j after (record {
        assigns = λ mon. plain_assigns mon j (λ m. m) (λ _. f.Collect round all) (q ∷ mons) (λ _. refl);
        members = plain_members j (λ m. m) (λ _. f.Collect round all) (q ∷ mons) (λ _. refl);
        force = collects_force s j round all q mons closed h.tuned new;
      }) h.standing;
      round = λ _. (all, r);
      short = short-append j (collects round all (q ∷ mons)) h.short (collects_short round all (q ∷ mons) (let l = objects_few s.objects all r.ascends r.positive r.within in omega (arith, l, few)));
    }

-- a wide round is over all objects
pub wide_round : (s : Setup) (j : List Noted) (round k : ℕ) → s.monitors ≡ suc k → AreCounted s j → last_round j < round → IsAscending (members_at j) → All (λ o. o ≤ s.objects) (members_at j)
    → IsRoundOver s (j ++ wide_collects s round) (objects s.objects)
wide_round s j round k some c new up within =
    let all = objects s.objects in
    let mons : monitors s ≡ 1 ∷ range_with_len (1 + 1) k = ap (range_with_len 1) some in
    subst (λ xs. IsRoundOver s (j ++ collects round all xs) all) (sym mons)
    (round_collects s j round all 1 (range_with_len (1 + 1) k) c new
    (all_by (Contains all) (members_at j) (λ t in'. let o = object_of s (members_at j) all t up within in' in in_catalogue s.objects t o.from_one o.within))
    (all_by (λ o. o ≤ s.objects) all (λ o in'. (of_catalogue s.objects o in').1))
    (all_by (λ o. 0 < o) all (λ o in'. (of_catalogue s.objects o in').0))
    (wide_ascends s.objects)
    (λ mon m none. absurd (true≢false (sym (is_in_range 1 (suc k) mon m.from_one (let w = m.within in omega (arith, w, some))) ∙ none)))
    (λ _. refl))

pub firm_wide : (s : Setup) (j : List Noted) (round k : ℕ) → s.objects ≤ 65536 → s.monitors ≡ suc k → is_open s j ≡ false → last_round j < round → IsOrderly s j → IsFirm s j → IsFirm s (j ++ wide_collects s round)
firm_wide s j round k few some closed new o h =
    let mons : monitors s ≡ 1 ∷ range_with_len (1 + 1) k = ap (range_with_len 1) some in
    let r = wide_round s j round k some o.counted new h.standing.chosen.ascends h.standing.chosen.within in
    subst (λ xs. IsFirm s (j ++ collects round (objects s.objects) xs)) (sym mons)
    (firm_collects s j round (objects s.objects) 1 (range_with_len (1 + 1) k) few closed new (subst (λ xs. IsRoundOver s (j ++ collects round (objects s.objects) xs) (objects s.objects)) mons r) h)

-- ---- Assigns

pub firm_assigned : (s : Setup) (j : List Noted) (decided : Decided) → is_open s j ≡ false → AreTuned s j → AreSentShort j → AreSentShort (assigns j decided) → IsStanding s (j ++ assigns j decided) → IsFirm s (j ++ assigns j decided)
firm_assigned s j decided closed t before sent st =
    let rows = drop 1 decided.dealt in
    let after = j ++ assigns j decided in
    let round = named_round j (λ (d : Row). d.0) (λ d. assigns_sent d.0 j + 1) decided.members (λ d. d.1) rows in
    record {
      tuned = tuned_by s j after round (wide_by s j after round (λ q mon. named_asked q mon j (λ (d : Row). d.0) (λ d. assigns_sent d.0 j + 1) decided.members (λ d. d.1) rows)) (sent_tunings j decided.members rows) t;
      standing = st;
      round = no_round s after (open_named s j (λ (d : Row). d.0) (λ d. assigns_sent d.0 j + 1) decided.members (λ d. d.1) rows ∙ closed);
      short = short-append j (assigns j decided) before sent;
    }

-- ---- what the calls of reallocation begin with

own_meets : (s : Setup) (j : List Noted) → IsStanding s j → MeetsOwn (table_at s j) (in_force s j).epsilon (members_at j)
own_meets s j st t o in' out some within =
    let r : IsObject s o = record { from_one = some; within = (let l = rows_count s j in omega (arith, within, l)) } in
    let holds = st.own t o in' out r in
    let of_o = own_is s j o r in
    let of_t = own_is s j t (object_of s (members_at j) [] t st.chosen.ascends st.chosen.within in') in
    omega (arith, ints, holds, of_o, of_t)

sized_table : (s : Setup) (j : List Noted) → IsOfSize (in_force s j) (table_at s j)
sized_table s j = record { objects = rows_count s j ∙ sym (force_objects s j); monitors = table_size s j ∙ sym (force_monitors s j) }

pub ready_over : (s : Setup) (j : List Noted) (all : List ℕ) → IsStanding s j → All (Contains all) (members_at j) → All (λ o. o ≤ s.objects) all → IsReady (in_force s j) (table_at s j) (members_at j) all
ready_over s j all st among within = record {
  size = sized_table s j;
  count = st.chosen.count;
  members = among;
  within = subst (λ q. All (λ o. o ≤ q) all) (sym (force_objects s j)) within;
  own = own_meets s j st;
}

first_over : (grid : Grid) (present all : List ℕ) (reports : List Reported) → 0 < length reports → All (CanTakePart grid present all) reports → objects_over reports ≡ all
first_over grid present all [] some takes = absurd (omega (arith, some))
first_over grid present all (r ∷ reports) some takes = (All-head (CanTakePart grid present all) r reports takes).values.same

-- a full round can be ended: its reports are those of all monitors, over the same objects
pub full_begins : (s : Setup) (j : List Noted) (all : List ℕ) (reports : List Reported) → IsWithinLimits s → AreTuned s j → IsStanding s j → All (Contains all) (members_at j) → All (λ o. o ≤ s.objects) all → All (λ o. 0 < o) all
    → IsAscending all → All (CanTakePart (table_at s j) (members_at j) all) reports → map (λ (r : Reported). r.mon.0) reports ≡ range_with_len 1 s.monitors → IsFullAt s j reports
full_begins s j all reports limits t st among within positive up takes order =
    let setup = in_force s j in
    let bounds = force_limits s j limits t in
    let present = members_at j in
    let some : 0 < length reports = (let a = length-map reports (λ (r : Reported). r.mon.0) in let b = ap length order in let c = length-range_with_len 1 s.monitors in let m = limits.some_monitor in omega (arith, a, b, c, m)) in
    let over = first_over (table_at s j) present all reports some takes in
    let apart = ascending_are_apart present st.chosen.ascends in
    let held = held_length present all apart (λ q in'. All-contains (Contains all) present q among in') in
    record {
      called = subst (λ xs. IsCalled setup (table_at s j) present xs reports) (sym over) (record {
        limits = bounds;
        balanced = table_balanced s j st.sizes;
        ready = ready_over s j all st among within;
        take = takes;
        order = order ∙ ap (range_with_len 1) (sym (force_monitors s j));
        positive = positive;
        apart = apart;
        count = chosen_count setup present reports all up bounds.some_member (let c = st.chosen.count in omega (arith, held, c));
      });
      within = subst (λ xs. All (λ o. o ≤ s.objects) xs) (sym over) within;
      ascends = subst IsAscending (sym over) up;
      sizes = st.sizes;
    }

pub wide_begins : (s : Setup) (j : List Noted) (reports : List Reported) → IsWithinLimits s → AreTuned s j → AreSized s j → All (CanTakePart (table_at s j) (members_at j) (objects s.objects)) reports
    → map (λ (r : Reported). r.mon.0) reports ≡ range_with_len 1 s.monitors → IsWideAt s j reports
wide_begins s j reports limits t sizes takes order = record {
  called = record {
    limits = force_limits s j limits t;
    size = sized_table s j;
    balanced = table_balanced s j sizes;
    reported = record {
      order = order ∙ ap (range_with_len 1) (sym (force_monitors s j));
      values = subst (λ q. All (λ (r : Reported). AreValues (objects q) r.values) reports) (sym (force_objects s j)) (λ k d below. (takes k d below).values);
    };
  };
  sizes = sizes;
}

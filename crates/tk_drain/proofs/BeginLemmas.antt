-- Beginnings of a drive: what stands where memory is wanted in the middle of it.
use Rattle.std.proofs.Common.{◌≡◌, ℕ, suc, zero, ◌+◌, ◌-◌, ◌<◌, ◌≤◌, List, [], ◌∷◌, ◌++◌, length, take, drop, refl, sym, ap, ◌∙◌, subst, arith, append_assoc, append-nil}
use Rattle.std.specs.Prelude.{flat_map}
use Rattle.std.specs.List.{range_with_len}
use Rattle.std.proofs.lemmas.List.{map-append, take-append-drop}
use Rattle.tk_base.specs.History.{IsFront}
use Rattle.tk_base.specs.declared.ids.Feeder.{Feeder}
use Rattle.tk_base.specs.declared.ids.Mon.{Mon}
use Rattle.tk_input.specs.Logs.{LogSet}
use Rattle.tk_input.specs.declared.event.Event.{Event}
use Rattle.tk_story.specs.Kept.{KeptStory}
use Rattle.tk_story.specs.Story.{IsStory}
use Rattle.tk_world.specs.Events.{raise_at}
use Rattle.tk_world.specs.World.{Moves}
use Rattle.tk_world.specs.declared.moved.Moved.{Moved}
use Rattle.tk_world.specs.declared.moved.Moved.TheVariants.{Yes, Idle}
use Rattle.tk_drain.specs.Drive.{BeginsDrive, BeginsFinishes, BeginsFinishing, BeginsSettling, Finishes, Settles, all_raises, keep_all, longest_of, pass_of}
use Rattle.tk_drain.specs.Drive.BeginsDrive.{InOrder, BehindOrder}
use Rattle.tk_drain.specs.Drive.BeginsFinishes.{Before, Settling, PassesOver, RaisesOn}
use Rattle.tk_drain.specs.Drive.BeginsFinishing.{InRaises}
use Rattle.tk_drain.specs.Drive.Finishes.{Done, Passes, Raises}
use Rattle.tk_drain.specs.Passing.{Covers, MayRaise, raises}
use Rattle.tk_drain.specs.Passing.Covers.{GoesOn, Ended}
use Rattle.tk_drain.proofs.KeepLemmas.{leads_story}
use Rattle.tk_drain.proofs.PartLemmas.{pass_again}
use Rattle.tk_drain.proofs.PassingLemmas.{Passed, covers_stays, one_leads, passed_once, raised_once}
use Rattle.tk_drain.proofs.LegLemmas.{moves_keep}
use Rattle.tk_drain.proofs.RaiseLemmas.{run_alike}
use Rattle.tk_drain.proofs.RestLemmas.{settles_rests}

-- ---- joined

-- raises that are done, and a beginning of those behind them
begins_after : (xs ys : List Event) (a b c : KeptStory) → Finishes xs a b → BeginsFinishes ys b c → BeginsFinishes (xs ++ ys) a c
begins_after [] ys a b c (Done kept) begins = begins
begins_after (e ∷ xs) ys a b c (Passes event rest kept end none on) begins = PassesOver e (xs ++ ys) a c none (begins_after xs ys a b c on begins)
begins_after (e ∷ xs) ys a b c (Raises event rest kept settled end story count some settles on) begins = RaisesOn e (xs ++ ys) a settled c story count some settles (begins_after xs ys settled b c on begins)

-- a beginning of a front of some raises is one of them
begins_front : (xs ys : List Event) (a c : KeptStory) → BeginsFinishes xs a c → BeginsFinishes (xs ++ ys) a c
begins_front xs ys a c (Before events kept) = Before (xs ++ ys) a
begins_front (e ∷ xs) ys a c (Settling event rest kept end story some begins) = Settling e (xs ++ ys) a c story some begins
begins_front (e ∷ xs) ys a c (PassesOver event rest kept end none on) = PassesOver e (xs ++ ys) a c none (begins_front xs ys a c on)
begins_front (e ∷ xs) ys a c (RaisesOn event rest kept settled end story count some settles on) = RaisesOn e (xs ++ ys) a settled c story count some settles (begins_front xs ys settled c on)

-- a beginning over the parts that go on is one over all of them
covered_begins : (ys xs : List Event) (a c : KeptStory) → IsStory a.story → Covers a.story xs ys → BeginsFinishes xs a c → BeginsFinishes ys a c
covered_begins ys xs a c h covers (Before events kept) = Before ys a
covered_begins [] (x ∷ xs) a c h covers (Settling event rest kept end story some begins) = elim covers [ ]
covered_begins [] (x ∷ xs) a c h covers (PassesOver event rest kept end none on) = elim covers [ ]
covered_begins [] (x ∷ xs) a c h covers (RaisesOn event rest kept settled end story count some settles on) = elim covers [ ]
covered_begins (y ∷ ys) (x ∷ xs) a c h (GoesOn e xs' ys' k) (Settling event rest kept end story some begins) = Settling y ys a c story some begins
covered_begins (y ∷ ys) (x ∷ xs) a c h (GoesOn e xs' ys' k) (PassesOver event rest kept end none on) = PassesOver y ys a c none (covered_begins ys xs a c h k on)
covered_begins (y ∷ ys) (x ∷ xs) a c h (GoesOn e xs' ys' k) (RaisesOn event rest kept settled end story count some settles on) =
    let f = one_leads y a settled (record { story = story; some = some; count = count; settles = settles }) in
    RaisesOn y ys a settled c story count some settles (covered_begins ys xs settled c (leads_story a settled f.took h f.leads) (covers_stays a.story settled.story f.took xs ys h f.leads.runs k) on)
covered_begins (y ∷ ys) xs a c h (Ended e xs' ys' mon g is none k) begins = PassesOver y ys a c none (covered_begins ys xs a c h k begins)

-- ---- one raise

-- in the settling of a raise
pub raise_begun : (e : Event) (a b c : KeptStory) → Moves a e Yes b → BeginsSettling b c → BeginsFinishes (e ∷ []) a c
raise_begun e a b c moves begins = Settling e [] a c b.story moves.0 (subst (λ (z : KeptStory). BeginsSettling z c) (moves_keep a b e Yes moves) begins)

pub not_begun : (events : List Event) (a c : KeptStory) → c ≡ a → BeginsFinishes events a c
not_begun events a c same = subst (λ (z : KeptStory). BeginsFinishes events a z) (sym same) (Before events a)

-- ---- a pass

raised : (e : Event) (moved : Moved) (a c : KeptStory) → MayRaise e moved a c → Finishes (e ∷ []) a c
raised e Yes a c r = raised_once e a c r
raised e Idle a c r = passed_once e a c r.0 r.1

rest_of : (parts : List (Mon × Feeder)) (i : ℕ) (part : Mon × Feeder) → take (i + 1) parts ≡ take i parts ++ part ∷ [] → raises parts ≡ raises (take i parts) ++ (raise_at part.0.0 part.1.0 ∷ raises (drop (i + 1) parts))
rest_of parts i part taken =
    let one : Mon × Feeder → Event = λ p. raise_at p.0.0 p.1.0 in
    ap raises (sym (take-append-drop (i + 1) parts))
    ∙ map-append one (take (i + 1) parts) (drop (i + 1) parts)
    ∙ ap (λ (es : List Event). es ++ raises (drop (i + 1) parts)) (ap raises taken ∙ map-append one (take i parts) (part ∷ []))
    ∙ append_assoc (raises (take i parts)) (one part ∷ []) (raises (drop (i + 1) parts))

-- the raise of one more part has begun
pub part_begun : (parts : List (Mon × Feeder)) (i : ℕ) (part : Mon × Feeder) (a b c : KeptStory) → take (i + 1) parts ≡ take i parts ++ part ∷ [] → Finishes (raises (take i parts)) a b → BeginsFinishes (raise_at part.0.0 part.1.0 ∷ []) b c → BeginsFinishes (raises parts) a c
part_begun parts i part a b c taken done begins =
    let e = raise_at part.0.0 part.1.0 in
    let rest = raises (drop (i + 1) parts) in
    subst (λ (es : List Event). BeginsFinishes es a c) (sym (rest_of parts i part taken)) (begins_after (raises (take i parts)) (e ∷ rest) a b c done (begins_front (e ∷ []) rest b c begins))

-- it is done
pub part_raised : (parts : List (Mon × Feeder)) (i : ℕ) (part : Mon × Feeder) (moved : Moved) (a b c : KeptStory) → take (i + 1) parts ≡ take i parts ++ part ∷ [] → Finishes (raises (take i parts)) a b → MayRaise (raise_at part.0.0 part.1.0) moved b c → BeginsFinishes (raises parts) a c
part_raised parts i part moved a b c taken done r =
    let e = raise_at part.0.0 part.1.0 in
    let rest = raises (drop (i + 1) parts) in
    subst (λ (es : List Event). BeginsFinishes es a c) (sym (rest_of parts i part taken))
    (begins_after (raises (take i parts)) (e ∷ rest) a b c done (begins_after (e ∷ []) rest b c c (raised e moved b c r) (Before rest c)))

-- ---- finishing

-- some passes, one more, and those behind it
passes_more : (logs : LogSet) (n k : ℕ) → (rest : List Event) × (flat_map (λ (_ : ℕ). pass_of logs) (range_with_len 0 (n + 1 + k)) ≡ flat_map (λ (_ : ℕ). pass_of logs) (range_with_len 0 n) ++ (pass_of logs ++ rest))
passes_more logs n zero =
    let done = flat_map (λ (_ : ℕ). pass_of logs) (range_with_len 0 n) in
    ([], ap (λ q. flat_map (λ (_ : ℕ). pass_of logs) (range_with_len 0 q)) (let e : n + 1 + 0 ≡ n + 1 = omega arith in e) ∙ pass_again logs n ∙ ap (λ (xs : List Event). done ++ xs) (sym (append-nil (pass_of logs))))
passes_more logs n (suc k) =
    let done = flat_map (λ (_ : ℕ). pass_of logs) (range_with_len 0 n) in
    let pass = pass_of logs in
    let before = passes_more logs n k in (
      before.0 ++ pass,
      ap (λ q. flat_map (λ (_ : ℕ). pass_of logs) (range_with_len 0 q)) (let e : n + 1 + suc k ≡ n + 1 + k + 1 = omega arith in e)
          ∙ pass_again logs (n + 1 + k)
          ∙ ap (λ (xs : List Event). xs ++ pass) before.1
          ∙ append_assoc done (pass ++ before.0) pass
          ∙ ap (λ (xs : List Event). done ++ xs) (append_assoc pass before.0 pass),
    )

pub pass_begun : (old settled now new : KeptStory) (parts : List (Mon × Feeder)) (count n longest : ℕ) → Settles old settled count → Passed settled now parts n → n < longest → longest ≡ longest_of settled.story.logs → BeginsFinishes (raises parts) now new → BeginsFinishing old new
unfolding all_raises
pass_begun old settled now new parts count n longest settles x more is begins =
    let logs = settled.story.logs in
    let done = flat_map (λ (_ : ℕ). pass_of logs) (range_with_len 0 n) in
    let r = settles_rests old settled count settles in
    let alike = run_alike old.story settled.story r.calms.took r.calms.leads.runs in
    let all = passes_more logs n (longest_of logs - (n + 1)) in
    let count_is : n + 1 + (longest_of logs - (n + 1)) ≡ longest_of logs = omega (arith, more, is) in
    let whole : all_raises logs ≡ done ++ (pass_of logs ++ all.0) = ap (λ q. flat_map (λ (_ : ℕ). pass_of logs) (range_with_len 0 q)) (sym count_is) ∙ all.1 in
    let here = begins_after done (pass_of logs ++ all.0) settled now new x.finishes (begins_front (pass_of logs) all.0 now new (covered_begins (pass_of logs) (raises parts) now new x.story x.covers begins)) in
    InRaises settled count settles (subst (λ (l : LogSet). BeginsFinishes (all_raises l) settled new) alike.logs (subst (λ (es : List Event). BeginsFinishes es settled new) (sym whole) here))

pub settled_only : (old settled : KeptStory) (count : ℕ) → Settles old settled count → BeginsFinishing old settled
settled_only old settled count settles = InRaises settled count settles (Before (all_raises old.story.logs) settled)

-- ---- the drive

taken_twice : {A : Type 0} (xs : List A) (i : ℕ) → take i xs ≡ take (length (take i xs)) xs
taken_twice xs zero = refl
taken_twice [] (suc i) = refl
taken_twice (x ∷ xs) (suc i) = ap (λ ys. x ∷ ys) (taken_twice xs i)

front_taken : {A : Type 0} (xs : List A) (i : ℕ) → IsFront (take i xs) xs
front_taken xs i = record { is = taken_twice xs i }

pub order_cut : (order : List Event) (i : ℕ) (old new : KeptStory) → new ≡ keep_all old (take i order) → BeginsDrive order old new
order_cut order i old new is = InOrder (record { front = take i order; is_front = front_taken order i; is = is })

whole_taken : {A : Type 0} (xs : List A) (i : ℕ) → length xs ≤ i → take i xs ≡ xs
whole_taken [] zero all = refl
whole_taken [] (suc i) all = refl
whole_taken (x ∷ xs) zero all = absurd (omega (arith, all))
whole_taken (x ∷ xs) (suc i) all = ap (λ ys. x ∷ ys) (whole_taken xs i (omega (arith, all)))

pub behind_order : (order : List Event) (i : ℕ) (old now new : KeptStory) → now ≡ keep_all old (take i order) → length order ≤ i → BeginsFinishing now new → BeginsDrive order old new
behind_order order i old now new is all begins = BehindOrder (subst (λ (z : KeptStory). BeginsFinishing z new) (is ∙ ap (keep_all old) (whole_taken order i all)) begins)

-- The places of a Settled pass the coordinator's test: they go on from those of the last accepted one.
use Rattle.tk_frames.specs.declared.frame.Frame.TheVariants as f
use Rattle.tk_journal.specs.declared.noted.Noted.TheVariants as n
use Rattle.std.proofs.Common.{◌≡◌, ℕ, suc, zero, ◌≤◌, ◌<◌, ◌&&◌, ◌==◌, ◌⊎◌, Bool, true, false, List, [], ◌∷◌, ◌++◌, length, get_or, Contains, Option, Some, None, refl, sym, ap, ◌∙◌, subst, arith, inl, inr}
use Rattle.std.specs.Prelude.{filter_map, nat_lt, nat_le, if◌then◌else◌}
use Rattle.std.specs.List.{list_all, zip}
use Rattle.std.proofs.lemmas.Bool.{and_from, eq-eqb, le-leb, lt-ltb}
use Rattle.tk_base.specs.History.{EachFrom}
use Rattle.tk_frames.specs.declared.frame.Frame.{Frame}
use Rattle.tk_journal.specs.Walks.{walk}
use Rattle.tk_journal.specs.Links.{Passed, frames_from, link_of}
use Rattle.tk_journal.specs.Links.Passed.{Up, Down}
use Rattle.tk_journal.specs.Readings.{Progress, assigns_on, progress_of, told}
use Rattle.tk_journal.specs.Refusal.{are_places, are_same, go_on, refusal_of_cut}
use Rattle.tk_journal.specs.declared.noted.Noted.{Noted}
use Rattle.tk_journal.specs.declared.refusal.CoordRefusal.TheVariants.{BadCut}
use Rattle.tk_journal.proofs.GatheredLemmas.{next_in}
use Rattle.tk_trail.specs.Setup.{IsSetup, MonitorSetup}
use Rattle.tk_trail.specs.Legal.{Allowed}
use Rattle.tk_trail.specs.Readings.{at_ends, places_at}
use Rattle.tk_trail.specs.declared.entry.Entry.{Entry}
use Rattle.tk_trail.proofs.LegalLemmas.{legal_places}
use Rattle.tk_trail.proofs.SlackLemmas.{places_rise}
use Rattle.tk_journal.proofs.ProgressLemmas.{are_same_by}
use Rattle.tk_trail.proofs.SaysLemmas.{ends_by_places, stays_at_ends}
use Rattle.tk_journal.proofs.HeardLemmas.{ups_are, up_in, ups}

-- ---- what was accepted last was got

pub record GotSettled (frames : List Frame) (p : Progress) : Type 0 where
  pub seq : ℕ
  pub got : Contains frames (f.Settled seq p.last p.places)

got_later : (frame : Frame) (frames : List Frame) (p : Progress) → GotSettled frames p → GotSettled (frame ∷ frames) p
got_later frame frames p h = record { seq = h.seq; got = next_in Frame frame (f.Settled h.seq p.last p.places) frames h.got }

told_or : (b : Bool) (seq : ℕ) (last : Bool) (places : List ℕ) (progress : Option Progress) (p : Progress) (frames : List Frame) → (if b then Some (record { places = places; last = last }) else progress) ≡ Some p
    → (progress ≡ Some p) ⊎ GotSettled (f.Settled seq last places ∷ frames) p
told_or true seq last places progress p frames is = inr (let same : record { places = places; last = last } ≡ p = cc in subst (GotSettled (f.Settled seq last places ∷ frames)) same (record { seq = seq; got = (zero, omega arith, refl) }))
told_or false seq last places progress p frames is = inl is

walked : (front : List Passed) (progress : Option Progress) (link : List Passed) (p : Progress) → walk told front progress link ≡ Some p → (progress ≡ Some p) ⊎ GotSettled (ups link) p
unfolding ups up_in
walked front progress [] p is = inl is
walked front progress (Up (f.Settled seq last places) ∷ link) p is = elim (walked (front ++ Up (f.Settled seq last places) ∷ []) (told front progress (Up (f.Settled seq last places))) link p is) [
  | inl old ↦ told_or (seq == assigns_on front) seq last places progress p (filter_map up_in link) old
  | inr later ↦ inr (got_later (f.Settled seq last places) (filter_map up_in link) p later)
]
walked front progress (Up (f.Hello run version mon) ∷ link) p is = elim (walked (front ++ Up (f.Hello run version mon) ∷ []) progress link p is) [ inl old ↦ inl old | inr later ↦ inr (got_later (f.Hello run version mon) (filter_map up_in link) p later) ]
walked front progress (Up (f.Report seq border failed values) ∷ link) p is = elim (walked (front ++ Up (f.Report seq border failed values) ∷ []) progress link p is) [ inl old ↦ inl old | inr later ↦ inr (got_later (f.Report seq border failed values) (filter_map up_in link) p later) ]
walked front progress (Up (f.Collect round asked) ∷ link) p is = elim (walked (front ++ Up (f.Collect round asked) ∷ []) progress link p is) [ inl old ↦ inl old | inr later ↦ inr (got_later (f.Collect round asked) (filter_map up_in link) p later) ]
walked front progress (Up (f.Values round seq border values) ∷ link) p is = elim (walked (front ++ Up (f.Values round seq border values) ∷ []) progress link p is) [ inl old ↦ inl old | inr later ↦ inr (got_later (f.Values round seq border values) (filter_map up_in link) p later) ]
walked front progress (Up (f.Assign seq members changes) ∷ link) p is = elim (walked (front ++ Up (f.Assign seq members changes) ∷ []) progress link p is) [ inl old ↦ inl old | inr later ↦ inr (got_later (f.Assign seq members changes) (filter_map up_in link) p later) ]
walked front progress (Up f.Stop ∷ link) p is = elim (walked (front ++ Up f.Stop ∷ []) progress link p is) [ inl old ↦ inl old | inr later ↦ inr (got_later f.Stop (filter_map up_in link) p later) ]
walked front progress (Down frame ∷ link) p is = walked (front ++ Down frame ∷ []) progress link p is

pub progress_was_got : (mon : ℕ) (j : List Noted) (p : Progress) → progress_of mon j ≡ Some p → GotSettled (frames_from mon j) p
unfolding progress_of
progress_was_got mon j p is = elim (walked [] None (link_of mon j) p is) [
  | inl none ↦ absurd (cc)
  | inr there ↦ subst (λ xs. GotSettled xs p) (ups_are mon j) there
]

-- ---- the places

numbers_all : (xs : List ℕ) (b : ℕ) → ((i : ℕ) → i < length xs → get_or xs i 0 ≤ b) → list_all (λ p. nat_le p b) xs ≡ true
numbers_all [] b each = refl
numbers_all (x ∷ xs) b each = and_from (nat_le x b) (list_all (λ p. nat_le p b) xs) (le-leb x b (each 0 (omega arith))) (numbers_all xs b (λ i below. each (suc i) (omega (arith, below))))

zip_all : (xs ys : List ℕ) → ((i : ℕ) → get_or xs i 0 ≤ get_or ys i 0) → list_all (λ (p : ℕ × ℕ). nat_le p.0 p.1) (zip xs ys) ≡ true
zip_all [] ys each = refl
zip_all (x ∷ xs) [] each = refl
zip_all (x ∷ xs) (y ∷ ys) each = and_from (nat_le x y) (list_all (λ (p : ℕ × ℕ). nat_le p.0 p.1) (zip xs ys)) (le-leb x y (each 0)) (zip_all xs ys (λ i. each (suc i)))

places_are : (setup : MonitorSetup) (x : List Entry) → IsSetup setup → EachFrom (Allowed setup) [] x → are_places (places_at setup x) ≡ true
places_are setup x limits each =
    let places = places_at setup x in
    let is = legal_places setup limits.from x each in
    let long = is.shape in
    let some = limits.parts.some_feeder in
    let most = limits.parts.feeders in
    and_from (nat_lt 0 (length places) && nat_le (length places) 8) (list_all (λ p. nat_le p 1000000) places)
    (and_from (nat_lt 0 (length places)) (nat_le (length places) 8) (lt-ltb 0 (length places) (omega (arith, long, some))) (le-leb (length places) 8 (omega (arith, long, most))))
    (numbers_all places 1000000 (λ i below. let a = is.within i in let b = limits.parts.lengths i [] (omega (arith, below, long)) in omega (arith, a, b)))

-- later places go on from earlier ones
goes_as : (setup : MonitorSetup) (x more : List Entry) (before : Bool) → IsSetup setup → EachFrom (Allowed setup) [] (x ++ more) → at_ends setup x ≡ before
    → (if before then at_ends setup (x ++ more) && are_same (places_at setup (x ++ more)) (places_at setup x) else length (places_at setup (x ++ more)) == length (places_at setup x) && list_all (λ (p : ℕ × ℕ). nat_le p.0 p.1) (zip (places_at setup x) (places_at setup (x ++ more)))) ≡ true
goes_as setup x more true limits each ends =
    let same = stays_at_ends setup x more limits.from each ends in
    and_from (at_ends setup (x ++ more)) (are_same (places_at setup (x ++ more)) (places_at setup x)) (ends_by_places setup (x ++ more) x same ∙ ends) (are_same_by (places_at setup (x ++ more)) (places_at setup x) same)
goes_as setup x more false limits each ends =
    let rise = places_rise setup x more in
    and_from (length (places_at setup (x ++ more)) == length (places_at setup x)) (list_all (λ (p : ℕ × ℕ). nat_le p.0 p.1) (zip (places_at setup x) (places_at setup (x ++ more))))
    (eq-eqb (length (places_at setup (x ++ more))) (length (places_at setup x)) (sym rise.shape)) (zip_all (places_at setup x) (places_at setup (x ++ more)) rise.each)

-- what is known of the last accepted Settled: it speaks of an earlier place
pub record SpokeAt (setup : MonitorSetup) (x : List Entry) (p : Progress) : Type 0 where
  pub before : List Entry
  pub more : List Entry
  pub is : x ≡ before ++ more
  pub places : p.places ≡ places_at setup before
  pub last : p.last ≡ at_ends setup before

on_from : (setup : MonitorSetup) (x : List Entry) (progress : Option Progress) → IsSetup setup → EachFrom (Allowed setup) [] x → ((p : Progress) → progress ≡ Some p → SpokeAt setup x p) → go_on progress (at_ends setup x) (places_at setup x) ≡ true
on_from setup x None limits each spoke = refl
on_from setup x (Some p) limits each spoke =
    let at = spoke p refl in
    ap (λ b. if b then at_ends setup x && are_same (places_at setup x) p.places else length (places_at setup x) == length p.places && list_all (λ (q : ℕ × ℕ). nat_le q.0 q.1) (zip p.places (places_at setup x))) at.last
    ∙ ap (λ ps. if at_ends setup at.before then at_ends setup x && are_same (places_at setup x) ps else length (places_at setup x) == length ps && list_all (λ (q : ℕ × ℕ). nat_le q.0 q.1) (zip ps (places_at setup x))) at.places
    ∙ subst (λ t. (if at_ends setup at.before then at_ends setup t && are_same (places_at setup t) (places_at setup at.before) else length (places_at setup t) == length (places_at setup at.before) && list_all (λ (q : ℕ × ℕ). nat_le q.0 q.1) (zip (places_at setup at.before) (places_at setup t))) ≡ true) (sym at.is)
    (goes_as setup at.before at.more (at_ends setup at.before) limits (subst (EachFrom (Allowed setup) []) at.is each) refl)

pub cut_accepted : (setup : MonitorSetup) (x : List Entry) (progress : Option Progress) → IsSetup setup → EachFrom (Allowed setup) [] x → ((p : Progress) → progress ≡ Some p → SpokeAt setup x p)
    → refusal_of_cut progress (at_ends setup x) (places_at setup x) ≡ None
cut_accepted setup x progress limits each spoke =
    ap (λ b. if b then None else Some BadCut) (and_from (are_places (places_at setup x)) (go_on progress (at_ends setup x) (places_at setup x)) (places_are setup x limits each) (on_from setup x progress limits each spoke))

-- What a trail's frames say of their places.
use Rattle.tk_frames.specs.declared.frame.Frame.TheVariants as f
use Rattle.std.proofs.Common.{◌≡◌, ℕ, suc, zero, ◌<◌, ◌||◌, ◌==◌, ℤ, Bool, true, false, List, [], ◌∷◌, ◌++◌, length, map, get_or, Some, refl, sym, ap, ◌∙◌, subst, arith, inl, inr}
use Rattle.std.specs.Prelude.{if◌then◌else◌}
use Rattle.std.specs.List.{list_all, list_any, zip}
use Rattle.std.proofs.lemmas.Bool.{cases_Bool, false≢true, true≢false}
use Rattle.std.proofs.lemmas.List.{length-append, length-map}
use Rattle.std.proofs.lemmas.List.Folds.{list_any-append}
use Rattle.std.proofs.lemmas.Grind.{same_number_lists}
use Rattle.std.proofs.Math.Bool.{or-true}
use Rattle.tk_base.specs.History.{EachFrom}
use Rattle.tk_base.proofs.HistoryLemmas.{each_front}
use Rattle.tk_frames.specs.declared.frame.Frame.{Frame}
use Rattle.tk_input.specs.Logs.{ArePlaces}
use Rattle.tk_trail.specs.Setup.{MonitorSetup}
use Rattle.tk_trail.specs.Frames.{border_over, report_at, settled_at, values_at, values_over}
use Rattle.tk_trail.specs.Legal.{Allowed, IsLegal}
use Rattle.tk_trail.specs.Readings.{assigns_of, at_ends, is_broken, is_end, is_end_told, is_report, is_reported, places_at, seq_of, since_assign}
use Rattle.tk_trail.specs.declared.entry.Entry.{Entry}
use Rattle.tk_trail.specs.declared.entry.Entry.TheVariants.{Took, Sent}
use Rattle.tk_trail.proofs.LawLemmas.{EndsIn, allowed_at, assigns_of-append, ends_from}
use Rattle.tk_trail.proofs.LegalLemmas.{legal_places, legal_told, ends_at}
use Rattle.tk_trail.proofs.PlacesLemmas.{length-places_at}
use Rattle.tk_trail.proofs.ReadingsLemmas.{since-assign}
use Rattle.tk_trail.proofs.SlackLemmas.{places_rise}
use Rattle.tk_trail.proofs.SendsLemmas.{Sends, last_entry, nothing, sends, since-more}
use Rattle.tk_trail.proofs.SendsLemmas.Sends.{Answered, Gathered, Reported, Ended}
use Rattle.tk_frames.specs.Carried.{is_values}
use Rattle.tk_trail.specs.Says.{SaysReport, SaysSettled, SaysValues}

-- ---- the last entry

pub ends_in : (trail : List Entry) (e : Entry) → last_entry trail ≡ Some e → EndsIn trail e
ends_in [] e is = absurd (cc)
ends_in (x ∷ xs) e is = ends_from x xs e is

-- ---- what a frame says

report_parts : (setup : MonitorSetup) (x : List Entry) (seq : ℕ) (border : ℤ) (failed : List ℕ) (values : List (ℕ × ℤ)) → is_broken setup x ≡ true → f.Report seq border failed values ≡ report_at setup x → SaysReport setup x seq border failed values
unfolding report_at
report_parts setup x seq border failed values broken e = record { seq_is = cc; border_is = cc; failed_is = cc; values_is = cc; broken = broken }

settled_parts : (setup : MonitorSetup) (x : List Entry) (seq : ℕ) (last : Bool) (places : List ℕ) → is_broken setup x ≡ false → f.Settled seq last places ≡ settled_at setup x → SaysSettled setup x seq last places
unfolding settled_at
settled_parts setup x seq last places calm e = record { seq_is = cc; last_is = cc; places_is = cc; calm = calm }

values_parts : (setup : MonitorSetup) (x : List Entry) (round seq : ℕ) (border : ℤ) (values : List (ℕ × ℤ)) (r : ℕ) (asked : List ℕ) → last_entry x ≡ Some (Took (f.Collect r asked)) → f.Values round seq border values ≡ values_at setup x r asked → SaysValues setup x round seq border values
unfolding values_at
values_parts setup x round seq border values r asked last e =
    let same : r ≡ round = cc in
    record { asked = asked; last = last ∙ ap (λ q. Some (Took (f.Collect q asked))) same; seq_is = cc; border_is = cc; values_is = cc }

not_settled : (setup : MonitorSetup) (x : List Entry) (seq : ℕ) (border : ℤ) (failed : List ℕ) (values : List (ℕ × ℤ)) → f.Report seq border failed values ≡ settled_at setup x → ⊥
unfolding settled_at
not_settled setup x seq border failed values e = cc

not_report : (setup : MonitorSetup) (x : List Entry) (seq : ℕ) (last : Bool) (places : List ℕ) → f.Settled seq last places ≡ report_at setup x → ⊥
unfolding report_at
not_report setup x seq last places e = cc

report_no_values : (setup : MonitorSetup) (x : List Entry) (seq : ℕ) (border : ℤ) (failed : List ℕ) (values : List (ℕ × ℤ)) (r : ℕ) (asked : List ℕ) → f.Report seq border failed values ≡ values_at setup x r asked → ⊥
unfolding values_at
report_no_values setup x seq border failed values r asked e = cc

settled_no_values : (setup : MonitorSetup) (x : List Entry) (seq : ℕ) (last : Bool) (places : List ℕ) (r : ℕ) (asked : List ℕ) → f.Settled seq last places ≡ values_at setup x r asked → ⊥
unfolding values_at
settled_no_values setup x seq last places r asked e = cc

values_no_report : (setup : MonitorSetup) (x : List Entry) (round seq : ℕ) (border : ℤ) (values : List (ℕ × ℤ)) → f.Values round seq border values ≡ report_at setup x → ⊥
unfolding report_at
values_no_report setup x round seq border values e = cc

values_no_settled : (setup : MonitorSetup) (x : List Entry) (round seq : ℕ) (border : ℤ) (values : List (ℕ × ℤ)) → f.Values round seq border values ≡ settled_at setup x → ⊥
unfolding settled_at
values_no_settled setup x round seq border values e = cc

answer_report : (setup : MonitorSetup) (x : List Entry) (seq : ℕ) (border : ℤ) (failed : List ℕ) (values : List (ℕ × ℤ)) (b : Bool) → is_broken setup x ≡ b → f.Report seq border failed values ≡ (if b then report_at setup x else settled_at setup x) → SaysReport setup x seq border failed values
answer_report setup x seq border failed values true is e = report_parts setup x seq border failed values is e
answer_report setup x seq border failed values false is e = absurd (not_settled setup x seq border failed values e)

answer_settled : (setup : MonitorSetup) (x : List Entry) (seq : ℕ) (last : Bool) (places : List ℕ) (b : Bool) → is_broken setup x ≡ b → f.Settled seq last places ≡ (if b then report_at setup x else settled_at setup x) → SaysSettled setup x seq last places
answer_settled setup x seq last places true is e = absurd (not_report setup x seq last places e)
answer_settled setup x seq last places false is e = settled_parts setup x seq last places is e

answer_values : (setup : MonitorSetup) (x : List Entry) (round seq : ℕ) (border : ℤ) (values : List (ℕ × ℤ)) (b : Bool) → f.Values round seq border values ≡ (if b then report_at setup x else settled_at setup x) → ⊥
answer_values setup x round seq border values true e = values_no_report setup x round seq border values e
answer_values setup x round seq border values false e = values_no_settled setup x round seq border values e

pub report_says : (setup : MonitorSetup) (x : List Entry) (seq : ℕ) (border : ℤ) (failed : List ℕ) (values : List (ℕ × ℤ)) → Sends setup x (f.Report seq border failed values) → SaysReport setup x seq border failed values
report_says setup x seq border failed values (Answered s m c last e) = answer_report setup x seq border failed values (is_broken setup x) refl e
report_says setup x seq border failed values (Gathered r asked last e) = absurd (report_no_values setup x seq border failed values r asked e)
report_says setup x seq border failed values (Reported unowed free broken e) = report_parts setup x seq border failed values broken e
report_says setup x seq border failed values (Ended unowed free calm ends told e) = absurd (not_settled setup x seq border failed values e)

pub settled_says : (setup : MonitorSetup) (x : List Entry) (seq : ℕ) (last : Bool) (places : List ℕ) → Sends setup x (f.Settled seq last places) → SaysSettled setup x seq last places
settled_says setup x seq last places (Answered s m c l e) = answer_settled setup x seq last places (is_broken setup x) refl e
settled_says setup x seq last places (Gathered r asked l e) = absurd (settled_no_values setup x seq last places r asked e)
settled_says setup x seq last places (Reported unowed free broken e) = absurd (not_report setup x seq last places e)
settled_says setup x seq last places (Ended unowed free calm ends told e) = settled_parts setup x seq last places calm e

pub values_say : (setup : MonitorSetup) (x : List Entry) (round seq : ℕ) (border : ℤ) (values : List (ℕ × ℤ)) → Sends setup x (f.Values round seq border values) → SaysValues setup x round seq border values
values_say setup x round seq border values (Answered s m c last e) = absurd (answer_values setup x round seq border values (is_broken setup x) e)
values_say setup x round seq border values (Gathered r asked last e) = values_parts setup x round seq border values r asked last e
values_say setup x round seq border values (Reported unowed free broken e) = absurd (values_no_report setup x round seq border values e)
values_say setup x round seq border values (Ended unowed free calm ends told e) = absurd (values_no_settled setup x round seq border values e)

-- ---- only Reports, Settleds and Values are sent

abbrev pub is_upward : Frame → Bool
is_upward (f.Report seq border failed values) = true
is_upward (f.Settled seq last places) = true
is_upward (f.Values round seq border values) = true
is_upward (f.Hello run version mon) = false
is_upward (f.Collect round asked) = false
is_upward (f.Assign seq members changes) = false
is_upward f.Stop = false

report_upward : (setup : MonitorSetup) (x : List Entry) → is_upward (report_at setup x) ≡ true
unfolding report_at
report_upward setup x = refl

settled_upward : (setup : MonitorSetup) (x : List Entry) → is_upward (settled_at setup x) ≡ true
unfolding settled_at
settled_upward setup x = refl

values_upward : (setup : MonitorSetup) (x : List Entry) (round : ℕ) (asked : List ℕ) → is_upward (values_at setup x round asked) ≡ true
unfolding values_at
values_upward setup x round asked = refl

answer_upward : (setup : MonitorSetup) (x : List Entry) (b : Bool) → is_upward (if b then report_at setup x else settled_at setup x) ≡ true
answer_upward setup x true = report_upward setup x
answer_upward setup x false = settled_upward setup x

pub upward : (setup : MonitorSetup) (x : List Entry) (g : Frame) → Sends setup x g → is_upward g ≡ true
upward setup x g (Answered s m c last e) = ap is_upward e ∙ answer_upward setup x (is_broken setup x)
upward setup x g (Gathered r asked last e) = ap is_upward e ∙ values_upward setup x r asked
upward setup x g (Reported unowed free broken e) = ap is_upward e ∙ report_upward setup x
upward setup x g (Ended unowed free calm ends told e) = ap is_upward e ∙ settled_upward setup x

-- ---- after a Report, or a Settled with `last`, only Values until the next Assign

pub record IsFree (x : List Entry) : Type 0 where
  pub reported : is_reported x ≡ false
  pub told : is_end_told x ≡ false

fresh_assign : (x : List Entry) (seq : ℕ) (members : List ℕ) (changes : List (ℕ × ℤ)) → EndsIn x (Took (f.Assign seq members changes)) → IsFree x
fresh_assign x seq members changes e =
    let none : since_assign x ≡ [] = ap since_assign e.is ∙ since-assign e.front seq members changes in
    record { reported = ap (list_any is_report) none; told = ap (list_any is_end) none }

not_told : (setup : MonitorSetup) (x : List Entry) → length setup.from ≡ length setup.parts → EachFrom (Allowed setup) [] x → is_broken setup x ≡ true → is_end_told x ≡ false
not_told setup x shape each broken = elim (cases_Bool (is_end_told x)) [
  | inr no' ↦ no'
  | inl yes' ↦ absurd (true≢false (sym broken ∙ ((legal_told setup shape x each).rest yes').calm))
]

values_are : (setup : MonitorSetup) (x : List Entry) (r : ℕ) (asked : List ℕ) → values_at setup x r asked ≡ f.Values r (seq_of x) (border_over setup x asked) (values_over setup x asked)
unfolding values_at
values_are setup x r asked = refl

pub free_before : (setup : MonitorSetup) (x : List Entry) (g : Frame) → length setup.from ≡ length setup.parts → EachFrom (Allowed setup) [] x → Sends setup x g → ((round seq : ℕ) (border : ℤ) (values : List (ℕ × ℤ)) → g ≡ f.Values round seq border values → ⊥) → IsFree x
free_before setup x g shape each (Answered s m c last e) no_values = fresh_assign x s m c (ends_in x (Took (f.Assign s m c)) last)
free_before setup x g shape each (Gathered r asked last e) no_values = absurd (no_values r (seq_of x) (border_over setup x asked) (values_over setup x asked) (e ∙ values_are setup x r asked))
free_before setup x g shape each (Reported unowed free broken e) no_values = record { reported = free; told = not_told setup x shape each broken }
free_before setup x g shape each (Ended unowed free calm ends told e) no_values = record { reported = free; told = told }

-- where no number follows no Assign does
pub same_count : (x y : List Entry) → seq_of (x ++ y) ≡ seq_of x → assigns_of y ≡ []
same_count x y same = nothing (assigns_of y) (let a = ap (λ (xs : List Rattle.tk_frames.specs.Assigns.Assign). length xs) (assigns_of-append x y) in let b = length-append (assigns_of x) (assigns_of y) in omega (arith, a, b, same))

any_since : (p : Entry → Bool) (x y : List Entry) (g : Frame) → seq_of (x ++ Sent g ∷ y) ≡ seq_of x → p (Sent g) ≡ true → list_any p (since_assign (x ++ Sent g ∷ y)) ≡ true
any_since p x y g same is =
    ap (λ es. list_any p es) (since-more x (Sent g ∷ y) (same_count x (Sent g ∷ y) same)) ∙ list_any-append p (since_assign x) (Sent g ∷ y) ∙ ap (λ b. list_any p (since_assign x) || (b || list_any p y)) is ∙ or-true (list_any p (since_assign x))

pub reported_since : (x y : List Entry) (g : Frame) → seq_of (x ++ Sent g ∷ y) ≡ seq_of x → is_report (Sent g) ≡ true → is_reported (x ++ Sent g ∷ y) ≡ true
reported_since x y g same is = any_since is_report x y g same is

pub told_since : (x y : List Entry) (g : Frame) → seq_of (x ++ Sent g ∷ y) ≡ seq_of x → is_end (Sent g) ≡ true → is_end_told (x ++ Sent g ∷ y) ≡ true
told_since x y g same is = any_since is_end x y g same is

-- ---- places

lengths_at : (parts : List (List (ℕ × ℤ))) (i : ℕ) → i < length parts → get_or (map length parts) i 0 ≡ length (get_or parts i [])
lengths_at [] i within = absurd (omega (arith, within))
lengths_at (part ∷ parts) zero within = refl
lengths_at (part ∷ parts) (suc i) within = lengths_at parts i (omega (arith, within))

-- at the ends the places are the lengths of the parts
pub ends_are : (setup : MonitorSetup) (x : List Entry) → length setup.from ≡ length setup.parts → at_ends setup x ≡ true → places_at setup x ≡ map length setup.parts
unfolding at_ends
ends_are setup x shape ends =
    let long = length-places_at setup x ∙ shape in
    same_number_lists (places_at setup x) (map length setup.parts) (long ∙ sym (length-map setup.parts length)) (λ i below.
    ends_at setup.parts (places_at setup x) i ends (omega (arith, below, long)) below ∙ sym (lengths_at setup.parts i (omega (arith, below, long))))

-- from the ends no place goes on
pub stays_at_ends : (setup : MonitorSetup) (x more : List Entry) → ArePlaces setup.parts setup.from → EachFrom (Allowed setup) [] (x ++ more) → at_ends setup x ≡ true → places_at setup (x ++ more) ≡ places_at setup x
stays_at_ends setup x more starts each ends =
    let is = ends_are setup x starts.shape ends in
    let rise = places_rise setup x more in
    let most = (legal_places setup starts (x ++ more) each).within in
    let long = length-places_at setup (x ++ more) ∙ starts.shape in
    same_number_lists (places_at setup (x ++ more)) (places_at setup x) (sym rise.shape) (λ i below.
    let low = rise.each i in
    let high = most i in
    let here : get_or (places_at setup x) i 0 ≡ length (get_or setup.parts i []) = ap (λ xs. get_or xs i 0) is ∙ lengths_at setup.parts i (omega (arith, below, long)) in
    omega (arith, low, high, here))

pub ends_by_places : (setup : MonitorSetup) (x y : List Entry) → places_at setup x ≡ places_at setup y → at_ends setup x ≡ at_ends setup y
unfolding at_ends
ends_by_places setup x y same = ap (λ ps. list_all (λ (p : List (ℕ × ℤ) × ℕ). p.1 == length p.0) (zip setup.parts ps)) same

-- ---- what stood in front of a sent frame

pub sent_where : (setup : MonitorSetup) (trail before after : List Entry) (g : Frame) → IsLegal setup trail → trail ≡ before ++ Sent g ∷ after → Sends setup before g
sent_where setup trail before after g legal is = sends setup before g (allowed_at setup before after (Sent g) (subst (IsLegal setup) is legal))

pub front_each : (setup : MonitorSetup) (trail before after : List Entry) → IsLegal setup trail → trail ≡ before ++ after → EachFrom (Allowed setup) [] before
front_each setup trail before after legal is = each_front (Allowed setup) [] before after (subst (IsLegal setup) is legal).each

-- ---- as laws

pub law_settled : (setup : MonitorSetup) (before after : List Entry) (seq : ℕ) (last : Bool) (places : List ℕ) → IsLegal setup (before ++ Sent (f.Settled seq last places) ∷ after) → SaysSettled setup before seq last places
law_settled setup before after seq last places legal = settled_says setup before seq last places (sent_where setup (before ++ Sent (f.Settled seq last places) ∷ after) before after (f.Settled seq last places) legal refl)

pub law_report : (setup : MonitorSetup) (before after : List Entry) (seq : ℕ) (border : ℤ) (failed : List ℕ) (values : List (ℕ × ℤ)) → IsLegal setup (before ++ Sent (f.Report seq border failed values) ∷ after) → SaysReport setup before seq border failed values
law_report setup before after seq border failed values legal = report_says setup before seq border failed values (sent_where setup (before ++ Sent (f.Report seq border failed values) ∷ after) before after (f.Report seq border failed values) legal refl)

pub law_values : (setup : MonitorSetup) (before after : List Entry) (round seq : ℕ) (border : ℤ) (values : List (ℕ × ℤ)) → IsLegal setup (before ++ Sent (f.Values round seq border values) ∷ after) → SaysValues setup before round seq border values
law_values setup before after round seq border values legal = values_say setup before round seq border values (sent_where setup (before ++ Sent (f.Values round seq border values) ∷ after) before after (f.Values round seq border values) legal refl)

-- behind a Report, or a Settled with `last`, nothing but Values until the next Assign
values_left : (h : Frame) → is_upward h ≡ true → (((round seq : ℕ) (border : ℤ) (values : List (ℕ × ℤ)) → h ≡ f.Values round seq border values → ⊥) → ⊥) → is_values h ≡ true
values_left (f.Values round seq border values) own none = refl
values_left (f.Report seq border failed values) own none = absurd (none (λ r q b v e. (cc)))
values_left (f.Settled seq last places) own none = absurd (none (λ r q b v e. (cc)))
values_left (f.Hello run version mon) own none = absurd (false≢true own)
values_left (f.Collect round asked) own none = absurd (false≢true own)
values_left (f.Assign seq members changes) own none = absurd (false≢true own)
values_left f.Stop own none = absurd (false≢true own)

pub law_silent : (setup : MonitorSetup) (before between after : List Entry) (g h : Frame) → length setup.from ≡ length setup.parts → IsLegal setup (before ++ Sent g ∷ between ++ Sent h ∷ after) → seq_of (before ++ Sent g ∷ between) ≡ seq_of before
    → (is_report (Sent g) || is_end (Sent g)) ≡ true → is_values h ≡ true
law_silent setup before between after g h shape legal same is =
    let x = before ++ Sent g ∷ between in
    let sent = sent_where setup (x ++ Sent h ∷ after) x after h legal refl in
    let each = front_each setup (x ++ Sent h ∷ after) x (Sent h ∷ after) legal refl in
    values_left h (upward setup x h sent) (λ no_values.
    let free = free_before setup x h shape each sent no_values in
    elim (cases_Bool (is_report (Sent g))) [
      | inl report ↦ true≢false (sym (reported_since before between g same report) ∙ free.reported)
      | inr no' ↦ true≢false (sym (told_since before between g same (sym (ap (λ b. b || is_end (Sent g)) no') ∙ is)) ∙ free.told)
    ])

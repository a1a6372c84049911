-- What each query of an input runs over, and what its sets are over the common logs.
use Rattle.std.proofs.Common.{◌≡◌, ℕ, suc, zero, ◌-◌, List, [], ◌∷◌, length, map, Bool, true, false, Some, None, sym, ap, ◌∙◌, subst}
use Rattle.std.specs.Prelude.{Option, Result, Ok, Err, if◌then◌else◌, nat_le, nat_lt, slice_get}
use Rattle.std.specs.List.{zip}
use Rattle.tk_base.specs.Settings.{Setup}
use Rattle.tk_input.specs.Logs.{IsValid, LogSet}
use Rattle.tk_input.specs.Records.{and_then}
use Rattle.tk_journal.specs.declared.publication.Publication.{Publication}
use Rattle.tk_multi.specs.Alone.{AreOfOneSize, all_settings, alone_with, alones_of, each_with, few_enough, updates_together}
use Rattle.tk_multi.specs.Answers.{IsAnswer}
use Rattle.tk_multi.specs.Projection.{logs_for}
use Rattle.tk_multi.specs.Queries.{QueryView, entry_at}
use Rattle.tk_multi.specs.declared.alone.Alone.{Alone}
use Rattle.tk_multi.specs.declared.event.MultiEvent.{MultiEvent}
use Rattle.tk_multi.specs.declared.fault.MultiFault.{MultiFault}
use Rattle.tk_multi.specs.declared.fault.MultiFault.TheVariants.{TooManyUpdates}
use Rattle.tk_story.specs.Kept.{KeptStory}

chosen : {A : Type 0} (b : Bool) (o : Option A) (x : A) → (if b then o else None) ≡ Some x → o ≡ Some x
chosen true o x is = is
chosen false o x is = absurd (cc)

-- the entry of a number stands one place before it
pub entry_got : {A : Type 0} (list : List A) (q : ℕ) (x : A) → entry_at list q ≡ Some x → slice_get list (q - 1) ≡ Some x
entry_got list q x is = chosen (nat_le 1 q) (slice_get list (q - 1)) x is

zipped_at : (f : QueryView × Setup → Alone) (queries : List QueryView) (settings : List Setup) (i : ℕ) (query : QueryView) (alone : Alone) → slice_get queries i ≡ Some query
    → slice_get (map f (zip queries settings)) i ≡ Some alone → (s : Setup) × (alone ≡ f (query, s))
zipped_at f [] settings i query alone is got = absurd (cc)
zipped_at f (x ∷ queries) [] i query alone is got = absurd (cc)
zipped_at f (x ∷ queries) (s ∷ settings) zero query alone is got = (s, (let same : x ≡ query = cc in let made : f (x, s) ≡ alone = cc in sym made ∙ ap (λ (z : QueryView). f (z, s)) same))
zipped_at f (x ∷ queries) (s ∷ settings) (suc i) query alone is got = zipped_at f queries settings i query alone is got

few_are : (b : Bool) (made alones : List Alone) → ◌≡◌ {A = Result (List Alone) MultiFault} (if b then Err TooManyUpdates else Ok made) (Ok alones) → made ≡ alones
few_are true made alones is = absurd (cc)
few_are false made alones is = cc

set_up : (names : List (List ℕ)) (all : LogSet) (queries : List QueryView) (alones : List Alone) (r : Result (List Setup) MultiFault) → and_then (λ settings. few_enough (each_with names all queries settings)) r ≡ Ok alones
    → (settings : List Setup) × (each_with names all queries settings ≡ alones)
set_up names all queries alones (Err fault) is = absurd (cc)
set_up names all queries alones (Ok settings) is = (settings, few_are (nat_lt 4000000 (updates_together (each_with names all queries settings))) (each_with names all queries settings) alones is)

-- what a query of an input runs over is what its prefix gives
pub alone_is : (names : List (List ℕ)) (all : LogSet) (queries : List QueryView) (alones : List Alone) (q : ℕ) (query : QueryView) (alone : Alone) → alones_of names all queries ≡ Ok alones → entry_at queries q ≡ Some query
    → entry_at alones q ≡ Some alone → (s : Setup) × (alone ≡ alone_with names all query.prefix s)
alone_is names all queries alones q query alone made asked given =
    let parts = set_up names all queries alones (all_settings names (length all.logs) queries) made in
    zipped_at (λ pair. alone_with names all pair.0.prefix pair.1) queries parts.0 (q - 1) query alone (entry_got queries q query asked)
    (ap (λ (list : List Alone). slice_get list (q - 1)) parts.1 ∙ entry_got alones q alone given)

-- so its sets are valid over the logs that its prefix gives
pub valid_alone : (names : List (List ℕ)) (all : LogSet) (prefix : List ℕ) (s : Setup) (events : List MultiEvent) (q : ℕ) (alone : Alone) (kept : KeptStory) (p : Publication) → alone ≡ alone_with names all prefix s → AreOfOneSize alone
    → IsAnswer all events q alone kept → IsValid kept.story.logs.logs kept.story.settings.objects p.k p.epsilon p.cut p.members
    → IsValid (logs_for prefix names all).logs (logs_for prefix names all).objects p.k p.epsilon p.cut p.members
valid_alone names all prefix s events q alone kept p is size answer valid =
    let logs : kept.story.logs ≡ logs_for prefix names all = answer.runs.logs_is ∙ ap (λ (a : Alone). a.logs) is in
    let objects : kept.story.settings.objects ≡ (logs_for prefix names all).objects =
    ap (λ (z : Setup). z.objects) answer.runs.settings_is ∙ sym size.objects ∙ ap (λ (a : Alone). a.logs.objects) is in
    subst (λ n. IsValid (logs_for prefix names all).logs n p.k p.epsilon p.cut p.members) objects
    (subst (λ (l : LogSet). IsValid l.logs kept.story.settings.objects p.k p.epsilon p.cut p.members) logs valid)

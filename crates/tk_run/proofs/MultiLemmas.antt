-- The texts of queries one after the other.
use Rattle.std.proofs.Common.{◌≡◌, ℕ, zero, suc, ◌+◌, ◌-◌, ◌<◌, Bool, All, List, [], ◌∷◌, ◌++◌, length, map, take, drop, get_or, Option, Some, None, sym, ap, subst, ◌∙◌, append-nil, arith}
use Rattle.std.specs.Prelude.{flat_map, option_map, if◌then◌else◌}
use Rattle.std.specs.List.{slice_get, zip}
use Rattle.std.proofs.lemmas.Bool.{le-leb}
use Rattle.std.proofs.lemmas.Grind.{flat_map-append}
use Rattle.std.proofs.lemmas.List.{length-map, take_more, take-append-drop}
use Rattle.std.proofs.lemmas.Option.{get_or_from_slice_get}
use Rattle.std.proofs.lemmas.Slice.Zip.{get_or-zip, length-zip}
use Rattle.tk_base.specs.Settings.{Setup}
use Rattle.tk_base.proofs.ListLemmas.{there_at}
use Rattle.tk_input.specs.Logs.{LogSet}
use Rattle.tk_commands.specs.declared.multi.MultiInput.{MultiInput}
use Rattle.tk_multi.specs.Alone.{AreOfOneSize}
use Rattle.tk_multi.specs.Answers.{AreAnswers, events_in}
use Rattle.tk_multi.specs.Queries.{QueryView, entry_at}
use Rattle.tk_multi.specs.declared.alone.Alone.{Alone}
use Rattle.tk_multi.specs.declared.event.MultiEvent.{MultiEvent}
use Rattle.tk_story.specs.Kept.{KeptStory}
use Rattle.tk_story.specs.Moments.{IsOver}
use Rattle.tk_story.specs.Story.{IsStory, StoryView}
use Rattle.tk_story.specs.Headline.{IsSound}
use Rattle.tk_run.specs.Multi.{AreAnswersOf}

-- one more text
pub texts_more : {X : Type 0} (text : X → List ℕ) (list : List X) (i : ℕ) (x : X) → i < length list → x ≡ get_or list i x → flat_map text (take (i + 1) list) ≡ flat_map text (take i list) ++ text x
texts_more {X} text list i x within is =
    ap (λ (l : List X). flat_map text l) (take_more list i x within ∙ ap (λ (y : X). take i list ++ y ∷ []) (sym is))
    ∙ flat_map-append text (take i list) (x ∷ [])
    ∙ ap (λ (l : List ℕ). flat_map text (take i list) ++ l) (append-nil (text x))

-- the texts so far, and the others
pub texts_split : {X : Type 0} (text : X → List ℕ) (list : List X) (i : ℕ) → flat_map text list ≡ flat_map text (take i list) ++ flat_map text (drop i list)
texts_split {X} text list i = ap (λ (l : List X). flat_map text l) (sym (take-append-drop i list)) ∙ flat_map-append text (take i list) (drop i list)

-- what stands under a number stands at the place before it
pub entry_is : {X : Type 0} (list : List X) (i : ℕ) → entry_at list (i + 1) ≡ slice_get list i
entry_is list i =
    let here : i + 1 - 1 ≡ i = omega arith in
    ap (λ (b : Bool). if b then slice_get list (i + 1 - 1) else None) (le-leb 1 (i + 1) (omega arith)) ∙ ap (λ (n : ℕ). slice_get list n) here

mapped_at : {X Y : Type 0} (f : X → Y) (list : List X) (i : ℕ) (x : X) (d : Y) → slice_get list i ≡ Some x → get_or (map f list) i d ≡ f x
mapped_at f [] i x d here = absurd (cc)
mapped_at f (y ∷ list) zero x d here = let same : y ≡ x = cc in ap f same
mapped_at f (y ∷ list) (suc i) x d here = mapped_at f list i x d here

named_from : (queries : List QueryView) (i : ℕ) (name : List ℕ) → option_map (λ (q : QueryView). q.name) (slice_get queries i) ≡ Some name → name ≡ get_or (map (λ (q : QueryView). q.name) queries) i name
named_from [] i name here = absurd (cc)
named_from (q ∷ queries) zero name here = let same : q.name ≡ name = cc in sym same
named_from (q ∷ queries) (suc i) name here = named_from queries i name here

-- the triple at a place: a query's name, the names of its objects, and its story
pub told_at : (queries : List QueryView) (names : List (List (List ℕ))) (stories : List KeptStory) (i : ℕ) (name : List ℕ) (own : List (List ℕ)) (kept : KeptStory)
    → i < length queries → length names ≡ length queries → length stories ≡ length queries → option_map (λ (q : QueryView). q.name) (entry_at queries (i + 1)) ≡ Some name → own ≡ get_or names i own → kept ≡ get_or stories i kept
    → ((name, own), kept) ≡ get_or (zip (zip (map (λ (q : QueryView). q.name) queries) names) stories) i ((name, own), kept)
told_at queries names stories i name own kept within same_names same_stories named is_own is_kept =
    let titles = map (λ (q : QueryView). q.name) queries in
    let in_titles : i < length titles = omega (arith, within, length-map queries (λ (q : QueryView). q.name)) in
    let in_names : i < length names = omega (arith, within, same_names) in
    let in_pairs : i < length (zip titles names) = omega (arith, in_titles, in_names, length-zip titles names) in
    let in_stories : i < length stories = omega (arith, within, same_stories) in
    let is_name : name ≡ get_or titles i name = named_from queries i name (sym (ap (λ (o : Option QueryView). option_map (λ (q : QueryView). q.name) o) (entry_is queries i)) ∙ named) in
    sym (get_or-zip (zip titles names) stories i ((name, own), kept) in_pairs in_stories
    ∙ ap (λ (p : List ℕ × List (List ℕ)). (p, get_or stories i kept)) (get_or-zip titles names i (name, own) in_titles in_names)
    ∙ ap (λ (n : List ℕ). ((n, get_or names i own), get_or stories i kept)) (sym is_name)
    ∙ ap (λ (o : List (List ℕ)). ((name, o), get_or stories i kept)) (sym is_own)
    ∙ ap (λ (k : KeptStory). ((name, own), k)) (sym is_kept))

-- how many triples there are
pub told_count : (queries : List QueryView) (names : List (List (List ℕ))) (stories : List KeptStory) → length names ≡ length queries → length stories ≡ length queries
    → length (zip (zip (map (λ (q : QueryView). q.name) queries) names) stories) ≡ length queries
told_count queries names stories same_names same_stories =
    let titles = map (λ (q : QueryView). q.name) queries in
    omega (arith, same_names, same_stories, length-map queries (λ (q : QueryView). q.name), length-zip titles names, length-zip (zip titles names) stories)

-- each object of an answer has a name
pub all_named : (all : LogSet) (events : List MultiEvent) (alones : List Alone) (names : List (List (List ℕ))) (stories : List KeptStory) → names ≡ map (λ (one : Alone). one.names) alones
    → AreAnswers all events alones stories → All AreOfOneSize alones → All (λ (told : List (List ℕ) × KeptStory). length told.0 ≡ told.1.story.settings.objects) (zip names stories)
all_named all events alones names stories are answers sizes = λ k d within.
    let pairs = length-zip names stories in
    let count = answers.count in
    let named : length names ≡ length alones = ap (λ (l : List (List (List ℕ))). length l) are ∙ length-map alones (λ (one : Alone). one.names) in
    let in_names : k < length names = omega (arith, within, pairs) in
    let in_stories : k < length stories = omega (arith, within, pairs) in
    let one = there_at alones k (omega (arith, in_names, named)) in
    let kept = there_at stories k in_stories in
    let answer = answers.each (k + 1) one.0 kept.0 (entry_is alones k ∙ one.1) (entry_is stories k ∙ kept.1) in
    let size : AreOfOneSize one.0 = subst AreOfOneSize (get_or_from_slice_get alones k one.0 one.0 one.1) (sizes k one.0 (omega (arith, in_names, named))) in
    let own : get_or names k d.0 ≡ one.0.names = ap (λ (l : List (List (List ℕ))). get_or l k d.0) are ∙ mapped_at (λ (a : Alone). a.names) alones k one.0 d.0 one.1 in
    let story : get_or stories k d.1 ≡ kept.0 = get_or_from_slice_get stories k kept.0 d.1 kept.1 in
    let here : get_or (zip names stories) k d ≡ (one.0.names, kept.0) =
    get_or-zip names stories k d in_names in_stories ∙ ap (λ (n : List (List ℕ)). (n, get_or stories k d.1)) own ∙ ap (λ (s : KeptStory). (one.0.names, s)) story in
    subst (λ (told : List (List ℕ) × KeptStory). length told.0 ≡ told.1.story.settings.objects) (sym here)
    (size.names ∙ sym (ap (λ (s : Setup). s.objects) answer.runs.settings_is))

-- the answers of an input are sound
pub are_sound : (input : MultiInput) (stories : List KeptStory) → AreAnswers input.logs (events_in input.order) input.alones.items stories → ((s : StoryView) → IsStory s → IsOver s → IsSound s) → AreAnswersOf input stories
are_sound input stories answers finished = record {
  answers = answers;
  sound = λ q one kept here there. let answer = answers.each q one kept here there in finished kept.story answer.legal answer.over;
}

-- Stories that worlds were finished to, and what they answer.
use Rattle.std.proofs.Common.{◌≡◌, ℕ, suc, zero, ◌-◌, ◌+◌, Bool, List, [], ◌∷◌, ◌++◌, length, take, Option, Some, None, refl, sym, ap, subst, ◌∙◌, arith}
use Rattle.std.specs.Prelude.{if◌then◌else◌}
use Rattle.std.specs.List.{slice_get}
use Rattle.std.proofs.lemmas.Bool.{le-leb}
use Rattle.std.proofs.lemmas.List.{take_more}
use Rattle.std.proofs.lemmas.List.Sums.{fold_push}
use Rattle.std.proofs.lemmas.Option.{get_or_from_slice_get, slice_get_within}
use Rattle.tk_base.specs.Settings.{Setup}
use Rattle.tk_input.specs.Logs.{LogSet}
use Rattle.tk_input.specs.declared.event.Event.{Event}
use Rattle.tk_story.specs.Kept.{KeptStory}
use Rattle.tk_story.specs.Story.{IsStory}
use Rattle.tk_world.specs.Events.{begin}
use Rattle.tk_world.specs.declared.moved.Moved.{Moved}
use Rattle.tk_world.specs.declared.moved.Moved.TheVariants.{Yes, Idle}
use Rattle.tk_drain.specs.Drive.{Drives, IsReached, keep_all}
use Rattle.tk_drain.specs.Resting.{RunsFrom}
use Rattle.tk_multi.specs.Multi.{Leaves, MultiView, begun, left_by, passed, passed_all}
use Rattle.tk_multi.specs.Projection.{projected}
use Rattle.tk_multi.specs.Queries.{entry_at}
use Rattle.tk_multi.specs.declared.alone.Alone.{Alone}
use Rattle.tk_multi.specs.declared.event.MultiEvent.{MultiEvent}
use Rattle.tk_multi.specs.Answers.{AreAnswers, AreFinished, IsEnd}

-- one more world
pub finished_more : (worlds stories : List KeptStory) (world kept : KeptStory) → AreFinished worlds stories → IsEnd world kept → AreFinished (worlds ++ world ∷ []) (stories ++ kept ∷ [])
finished_more [] [] world kept are is = (is, tt)
finished_more [] (k ∷ stories) world kept are is = absurd are
finished_more (w ∷ worlds) [] world kept are is = absurd are
finished_more (w ∷ worlds) (k ∷ stories) world kept are is = (are.0, finished_more worlds stories world kept are.1 is)

-- there is a story for each world
pub finished_count : (worlds stories : List KeptStory) → AreFinished worlds stories → length stories ≡ length worlds
finished_count [] [] are = refl
finished_count [] (k ∷ stories) are = absurd are
finished_count (w ∷ worlds) [] are = absurd are
finished_count (w ∷ worlds) (k ∷ stories) are = omega (arith, finished_count worlds stories are.1)

at_place : (worlds stories : List KeptStory) (i : ℕ) (world kept : KeptStory) → AreFinished worlds stories → slice_get worlds i ≡ Some world → slice_get stories i ≡ Some kept → IsEnd world kept
at_place [] stories i world kept are here there = absurd (cc)
at_place (w ∷ worlds) [] i world kept are here there = absurd are
at_place (w ∷ worlds) (k ∷ stories) zero world kept are here there =
    let same_world : w ≡ world = cc in
    let same_kept : k ≡ kept = cc in
    subst (λ (x : KeptStory). IsEnd x kept) same_world (subst (λ (y : KeptStory). IsEnd w y) same_kept are.0)
at_place (w ∷ worlds) (k ∷ stories) (suc i) world kept are here there = at_place worlds stories i world kept are.1 here there

entry_is : {A : Type 0} (list : List A) (i : ℕ) → entry_at list (suc i) ≡ slice_get list i
entry_is list i =
    let here : suc i - 1 ≡ i = omega arith in
    ap (λ (b : Bool). if b then slice_get list (suc i - 1) else None) (le-leb 1 (suc i) (omega arith)) ∙ ap (λ (n : ℕ). slice_get list n) here

-- the story of a number was finished from the world of that number
pub finished_at : (worlds stories : List KeptStory) (q : ℕ) (world kept : KeptStory) → AreFinished worlds stories → entry_at worlds q ≡ Some world → entry_at stories q ≡ Some kept → IsEnd world kept
finished_at worlds stories zero world kept are here there = absurd (cc)
finished_at worlds stories (suc i) world kept are here there = at_place worlds stories i world kept are (sym (entry_is worlds i) ∙ here) (sym (entry_is stories i) ∙ there)

-- worlds that stand where each query alone would are finished to its answers
pub answers : (all : LogSet) (events : List MultiEvent) (alones : List Alone) (worlds stories : List KeptStory)
    → ((q : ℕ) (one : Alone) → entry_at alones q ≡ Some one → entry_at worlds q ≡ Some (keep_all (begun one) (projected all one.watch q events)))
    → length worlds ≡ length alones
    → ((order : List Event) (begun end : KeptStory) → Drives order begun end → IsReached begun end)
    → ((settings : Setup) (logs : LogSet) (from : List (List ℕ)) (end : KeptStory) → IsStory end.story → IsReached (record { story = begin settings logs from; events = [] }) end → RunsFrom settings logs from end)
    → AreFinished worlds stories → AreAnswers all events alones stories
answers all events alones worlds stories alone count reached runs finished = record {
  count = finished_count worlds stories finished ∙ count;
  each = λ q one kept here there.
      let sees = projected all one.watch q events in
      let end = finished_at worlds stories q (keep_all (begun one) sees) kept finished (alone q one here) there in
      let driven : Drives sees (begun one) kept = record { finished = end.finished } in
      record {
        legal = end.legal;
        over = end.over;
        runs = runs one.settings one.logs one.from kept end.legal (reached sees (begun one) kept driven);
        driven = driven;
      };
}

-- what an event that happened or not leaves
pub passed_by : (next : Option MultiView) (old new : MultiView) (moved : Moved) → Leaves next old moved new → new ≡ left_by old next
passed_by next old new Yes is = sym (ap (left_by old) is)
passed_by next old new Idle is = is.1 ∙ sym (ap (left_by old) is.0)

-- one more event
pub passed_more : (m : MultiView) (events : List MultiEvent) (i : ℕ) (event : MultiEvent) → slice_get events i ≡ Some event → passed_all m (take (i + 1) events) ≡ passed (passed_all m (take i events)) event
passed_more m events i event here =
    ap (λ (es : List MultiEvent). passed_all m es) (take_more events i event (slice_get_within events i event here) ∙ ap (λ (e : MultiEvent). take i events ++ e ∷ []) (get_or_from_slice_get events i event event here))
    ∙ fold_push passed m (take i events) event

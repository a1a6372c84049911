-- What each step of a node leaves of a world, over what the nodes show.
use Rattle.tk_journal.specs.declared.noted.Noted.TheVariants as n
use Rattle.std.proofs.Common.{◌≡◌, ℕ, ◌+◌, ◌-◌, ◌≤◌, ◌<◌, ◌==◌, ◌&&◌, ◌||◌, not, All, Bool, true, List, [], ◌∷◌, ◌++◌, length, map, get_or, take, None, refl, sym, ap, ap₂, ◌∙◌, subst, arith}
use Rattle.std.specs.Prelude.{is_some, pos}
use Rattle.std.proofs.lemmas.List.{get_or-set_same, get_or_default, length-set, map-append, take_more}
use Rattle.tk_base.specs.Settings.{Setup}
use Rattle.tk_base.specs.declared.ids.Feeder.{Feeder}
use Rattle.tk_base.specs.declared.ids.Mon.{Mon}
use Rattle.tk_base.proofs.ListLemmas.{there_at}
use Rattle.tk_coord.specs.Coordinator.{CoordinatorView}
use Rattle.tk_input.specs.Event.{Tuning}
use Rattle.tk_input.specs.Logs.{LogSet}
use Rattle.tk_input.specs.declared.event.Event.TheVariants.{Raise, Check, Up, Down, Retune}
use Rattle.tk_journal.specs.Entries.{IsEntryOf}
use Rattle.tk_journal.specs.Laws.{IsMonitor}
use Rattle.tk_journal.specs.Legal.{turn_of}
use Rattle.tk_journal.specs.Links.{frames_to}
use Rattle.tk_journal.specs.Refusal.{retune_refusal_of}
use Rattle.tk_monitor.specs.Monitored.{IsFeederOf, MonitorView, checked_at}
use Rattle.tk_monitor.specs.declared.outcome.Checked.{Checked}
use Rattle.tk_monitor.specs.declared.outcome.Checked.TheVariants.{Nothing}
use Rattle.tk_monitor.specs.declared.outcome.Raised.TheVariants.{Done, Ended}
use Rattle.tk_trail.specs.Readings.{at_ends, places_at, sent_by}
use Rattle.tk_trail.specs.Setup.{MonitorSetup}
use Rattle.tk_trail.specs.declared.entry.Entry.{Entry}
use Rattle.tk_monitor.specs.Stepped.{checking, taking}
use Rattle.tk_story.specs.Story.{IsStory, StoryView}
use Rattle.tk_world.specs.Events.{next_of}
use Rattle.tk_world.specs.Nodes.{AtSeat, CanGoDown, CanGoUp, GoesDown, GoesUp, HasSeat, NodesView, RaisesAt, fresh_seat, retuned, with_seat}
use Rattle.tk_world.specs.Seats.{Holds, HoldsWith, are_links_empty, places_in, story_with, trails_of}
use Rattle.tk_world.specs.Work.{has}
use Rattle.tk_world.specs.World.{IsFeeder}
use Rattle.tk_world.specs.declared.seat.Seat.{Seat}
use Rattle.tk_world.specs.declared.work.Work.{Work}
use Rattle.tk_world.proofs.EventLemmas.{down_taken}
use Rattle.tk_world.proofs.EnabledLemmas.{check_enabled, down_enabled, up_enabled}
use Rattle.tk_world.proofs.SeatLemmas.{inside}
use Rattle.tk_world.proofs.TurnLemmas.{Adds, up_taken}
use Rattle.tk_world.proofs.WorldLemmas.{Leaves, check_leaves, check_stays, down_leaves, down_stays, raise_ends, raise_leaves, retune_leaves, unchanged, up_leaves, up_stays}

-- ---- the seat of a monitor

abbrev pub seat_of : NodesView → LogSet → List (List ℕ) → ℕ → Seat
seat_of v L F mon = get_or v.seats (mon - 1) (fresh_seat v.coordinator.settings L F 1)

pub seat_at : (v : NodesView) (L : LogSet) (F : List (List ℕ)) (mon : ℕ) → IsStory (story_with v L F) → IsMonitor v.coordinator.settings mon → seat_of v L F mon ≡ get_or v.seats (mon - 1) (seat_of v L F mon)
seat_at v L F mon h m = get_or_default v.seats (mon - 1) (fresh_seat v.coordinator.settings L F 1) (seat_of v L F mon) (inside v.coordinator.settings L F v.coordinator.journal v.seats mon h m)

pub has_seat : (v : NodesView) (L : LogSet) (F : List (List ℕ)) (mon : ℕ) → IsStory (story_with v L F) → IsMonitor v.coordinator.settings mon → HasSeat v mon
has_seat v L F mon h m = record {
  monitor = m;
  seated = let low = inside v.coordinator.settings L F v.coordinator.journal v.seats mon h m in let a = m.from_one in omega (arith, low, a);
}

pub place_of_seat : (v : NodesView) (mon : ℕ) → HasSeat v mon → mon - 1 < length v.seats
place_of_seat v mon has = let a = has.monitor.from_one in let b = has.seated in omega (arith, a, b)

-- a fact of the seat, whatever stands for none
pub at_seat : (v : NodesView) (mon : ℕ) (P : Seat → Type 0) (d : Seat) → HasSeat v mon → P (get_or v.seats (mon - 1) d) → AtSeat v mon P
at_seat v mon P d has p = λ e. subst P (get_or_default v.seats (mon - 1) d e (place_of_seat v mon has)) p

-- another seat in its place
pub seat_there : (v v' : NodesView) (mon : ℕ) (seat d : Seat) → HasSeat v mon → v' ≡ with_seat v mon seat → get_or v'.seats (mon - 1) d ≡ seat
seat_there v v' mon seat d has is = ap (λ (z : NodesView). get_or z.seats (mon - 1) d) is ∙ get_or-set_same v.seats (mon - 1) seat d (place_of_seat v mon has)

pub has_still : (v v' : NodesView) (mon : ℕ) (seat : Seat) → HasSeat v mon → v' ≡ with_seat v mon seat → HasSeat v' mon
has_still v v' mon seat has is = subst (λ (z : NodesView). HasSeat z mon) (sym is) (record {
  monitor = has.monitor;
  seated = let e = length-set v.seats (mon - 1) seat in let b = has.seated in omega (arith, e, b);
})

-- ---- raises

pub feeder_there : (v : NodesView) (L : LogSet) (F : List (List ℕ)) (raises : ℕ) (work : Work) (mon g : ℕ) → HoldsWith v L F raises work → IsFeeder (story_with v L F) mon g → AtSeat v mon (λ seat. IsFeederOf seat.monitor.setup g)
feeder_there v L F raises work mon g h is = λ d.
    let same = (h.seats_are mon d is.monitor).setup in
    record { from_one = is.from_one; within = subst (λ (a : MonitorSetup). g ≤ length a.parts) (sym same) is.within }

pub raise_with : (v v' : NodesView) (L : LogSet) (F : List (List ℕ)) (raises : ℕ) (work work' : Work) (mon : Mon) (g : Feeder) (broken ended : Bool) (now : MonitorView)
    → HoldsWith v L F raises work → IsMonitor v.coordinator.settings mon.0 → RaisesAt mon.0 g (Done broken) v v' (seat_of v L F mon.0)
    → AtSeat v' mon.0 (λ seat. now ≡ seat.monitor) → ended ≡ at_ends now.setup now.trail
    → ((q : ℕ) → has work' q ≡ ((broken || ended) && q == mon.0 || has work q))
    → (0 < raises) × Leaves (story_with v L F) (Raise mon g) v'.coordinator.settings L F v'.coordinator.journal v'.seats (raises - 1) work'
raise_with v v' L F raises work work' mon g broken ended now h m raised reads going adds =
    let S = v.coordinator.settings in
    let j = v.coordinator.journal in
    let seat = seat_of v L F mon.0 in
    let new : Seat = record seat { monitor = raised.monitor } in
    let is : now ≡ raised.monitor = reads new ∙ ap (λ (x : Seat). x.monitor) (seat_there v v' mon.0 new new (has_seat v L F mon.0 h.story m) raised.is) in
    let leaves = raise_leaves S L F j v.seats raises work work' mon g seat raised.monitor broken ended h m (seat_at v L F mon.0 h.story m) raised.answer.0 raised.answer.1 raised.answer.2
    (going ∙ ap (λ (x : MonitorView). at_ends x.setup x.trail) is) adds in (
      leaves.0,
      subst (λ (z : NodesView). Leaves (story_with v L F) (Raise mon g) z.coordinator.settings L F z.coordinator.journal z.seats (raises - 1) work') (sym raised.is) leaves.1,
    )

-- a part at its end
pub raise_none : (v v' : NodesView) (L : LogSet) (F : List (List ℕ)) (raises : ℕ) (work : Work) (mon : Mon) (g : Feeder)
    → HoldsWith v L F raises work → IsMonitor v.coordinator.settings mon.0 → RaisesAt mon.0 g Ended v v' (seat_of v L F mon.0)
    → (next_of (story_with v L F) (Raise mon g) ≡ None) × (v' ≡ v)
raise_none v v' L F raises work mon g h m raised =
    let seat = seat_of v L F mon.0 in
    let at = seat_at v L F mon.0 h.story m in (
      raise_ends v.coordinator.settings L F v.coordinator.journal v.seats raises work mon g seat h m at raised.answer.0,
      raised.is
          ∙ ap (λ (x : MonitorView). with_seat v mon.0 (record seat { monitor = x })) raised.answer.1
          ∙ ap (λ (xs : List Seat). record { coordinator = v.coordinator; seats = xs }) (unchanged v.seats (mon.0 - 1) seat at),
    )

-- ---- checks

pub check_with : (v v' : NodesView) (L : LogSet) (F : List (List ℕ)) (raises raises' : ℕ) (work : Work) (mon : Mon) (checked_now : Checked) (reads : MonitorView)
    → HoldsWith v L F raises work → has work mon.0 ≡ true → AtSeat v mon.0 (λ seat. reads ≡ seat.monitor) → checked_now ≡ checked_at reads.setup reads.trail → (checked_now ≡ Nothing → ⊥)
    → AtSeat v mon.0 (λ seat. v' ≡ with_seat v mon.0 (record seat { monitor = checking seat.monitor })) → raises' ≡ raises
    → Leaves (story_with v L F) (Check mon) v'.coordinator.settings L F v'.coordinator.journal v'.seats raises' work
check_with v v' L F raises raises' work mon checked_now reads h busy read answer some is room =
    let seat = seat_of v L F mon.0 in
    let m = h.within mon.0 busy in
    let d = fresh_seat v.coordinator.settings L F 1 in
    subst (λ (z : NodesView). Leaves (story_with v L F) (Check mon) z.coordinator.settings L F z.coordinator.journal z.seats raises' work) (sym (is d))
    (check_leaves v.coordinator.settings L F v.coordinator.journal v.seats raises raises' work mon seat (checking seat.monitor) checked_now h busy (seat_at v L F mon.0 h.story m)
    (answer ∙ ap (λ (x : MonitorView). checked_at x.setup x.trail) (read d)) some refl room)

-- a check that sends nothing
pub record Idles (v : NodesView) (L : LogSet) (F : List (List ℕ)) (mon : Mon) (raises : ℕ) (work : Work) : Type 0 where
  pub none : next_of (story_with v L F) (Check mon) ≡ None
  pub holds : HoldsWith v L F raises work

pub check_none : (v : NodesView) (L : LogSet) (F : List (List ℕ)) (raises : ℕ) (work work' : Work) (mon : Mon) (checked_now : Checked) (reads : MonitorView) (empty : Bool)
    → HoldsWith v L F raises work → has work mon.0 ≡ true → AtSeat v mon.0 (λ seat. reads ≡ seat.monitor) → checked_now ≡ checked_at reads.setup reads.trail → checked_now ≡ Nothing
    → AtSeat v mon.0 (λ seat. empty ≡ are_links_empty (length (frames_to mon.0 v.coordinator.journal)) seat)
    → ((q : ℕ) → has work' q ≡ (not (empty && q == mon.0) && has work q))
    → Idles v L F mon raises work'
check_none v L F raises work work' mon checked_now reads empty h busy read answer nothing links left =
    let seat = seat_of v L F mon.0 in
    let m = h.within mon.0 busy in
    let d = fresh_seat v.coordinator.settings L F 1 in
    let stays = check_stays v.coordinator.settings L F v.coordinator.journal v.seats raises work work' mon seat (length (frames_to mon.0 v.coordinator.journal)) empty h busy (seat_at v L F mon.0 h.story m)
    (sym nothing ∙ answer ∙ ap (λ (x : MonitorView). checked_at x.setup x.trail) (read d)) refl (links d) left in
    record {
      none = stays.none;
      holds = subst (λ (xs : List Seat). Holds v.coordinator.settings L F v.coordinator.journal xs raises work') stays.same stays.holds;
    }

-- ---- deliveries

grows_to : {X : Type 0} (xs ys : List X) → length xs ≤ length (xs ++ ys)
grows_to [] ys = omega arith
grows_to (x ∷ xs) ys = let more = grows_to xs ys in omega (arith, more)

pub up_allowed : (v : NodesView) (L : LogSet) (F : List (List ℕ)) (raises : ℕ) (work : Work) (mon : Mon) (got sent : ℕ) (reads : MonitorView) → HoldsWith v L F raises work → has work mon.0 ≡ true
    → AtSeat v mon.0 (λ seat. got ≡ seat.got) → AtSeat v mon.0 (λ seat. reads ≡ seat.monitor) → sent ≡ length (sent_by reads.trail) → got < sent → AtSeat v mon.0 (CanGoUp v mon.0)
up_allowed v L F raises work mon got sent reads h busy got_is read sent_is more =
    let seat = seat_of v L F mon.0 in
    let m = h.within mon.0 busy in
    let d = fresh_seat v.coordinator.settings L F 1 in
    let at = seat_at v L F mon.0 h.story m in
    let g = got_is d in
    let s : sent ≡ length (sent_by seat.monitor.trail) = sent_is ∙ ap (λ (x : MonitorView). length (sent_by x.trail)) (read d) in
    let next = there_at (sent_by seat.monitor.trail) seat.got (omega (arith, g, s, more)) in
    at_seat v mon.0 (CanGoUp v mon.0) d (has_seat v L F mon.0 h.story m) (record {
      frame = next.0;
      next = next.1;
      accepted = up_taken v.coordinator.settings L F v.coordinator.journal v.seats raises work mon seat next.0 h m at next.1;
    })

pub up_with : (v v' : NodesView) (L : LogSet) (F : List (List ℕ)) (raises raises' : ℕ) (work work' : Work) (mon : Mon) → HoldsWith v L F raises work → has work mon.0 ≡ true
    → AtSeat v mon.0 (GoesUp mon v v') → All (IsEntryOf v'.coordinator.settings.monitors v'.coordinator.settings.objects) v'.coordinator.journal
    → Adds v'.coordinator.journal (length v.coordinator.journal) work work' → raises' ≡ raises
    → Leaves (story_with v L F) (Up mon) v'.coordinator.settings L F v'.coordinator.journal v'.seats raises' work'
up_with v v' L F raises raises' work work' mon h busy goes entries adds room =
    let seat = seat_of v L F mon.0 in
    let m = h.within mon.0 busy in
    let up = goes (fresh_seat v.coordinator.settings L F 1) in
    let S = v.coordinator.settings in
    let j = v.coordinator.journal in
    subst (λ (z : NodesView). Leaves (story_with v L F) (Up mon) z.coordinator.settings L F z.coordinator.journal z.seats raises' work') (sym up.is)
    (up_leaves S S L F j (j ++ turn_of S j (n.Got mon up.frame)) v.seats raises raises' work work' mon seat up.frame h busy (seat_at v L F mon.0 h.story m) up.next refl refl
    (subst (λ (z : NodesView). All (IsEntryOf z.coordinator.settings.monitors z.coordinator.settings.objects) z.coordinator.journal) up.is entries)
    (subst (λ (z : NodesView). Adds z.coordinator.journal (length j) work work') up.is adds) room)

-- what a turn keeps: the settings, and the journal so far
pub record GoesOn (v v' : NodesView) : Type 0 where
  pub settings : v'.coordinator.settings ≡ v.coordinator.settings
  pub longer : length v.coordinator.journal ≤ length v'.coordinator.journal

pub up_goes_on : (v v' : NodesView) (L : LogSet) (F : List (List ℕ)) (mon : Mon) → AtSeat v mon.0 (GoesUp mon v v') → GoesOn v v'
up_goes_on v v' L F mon goes =
    let up = goes (fresh_seat v.coordinator.settings L F 1) in
    subst (λ (z : NodesView). GoesOn v z) (sym up.is) (record {
      settings = refl;
      longer = grows_to v.coordinator.journal (turn_of v.coordinator.settings v.coordinator.journal (n.Got mon up.frame));
    })

pub down_allowed : (v : NodesView) (L : LogSet) (F : List (List ℕ)) (raises : ℕ) (work : Work) (mon : Mon) (taken sent : ℕ) → HoldsWith v L F raises work → has work mon.0 ≡ true
    → AtSeat v mon.0 (λ seat. taken ≡ seat.taken) → sent ≡ length (frames_to mon.0 v.coordinator.journal) → taken < sent → AtSeat v mon.0 (CanGoDown v mon.0)
down_allowed v L F raises work mon taken sent h busy taken_is sent_is more =
    let seat = seat_of v L F mon.0 in
    let m = h.within mon.0 busy in
    let d = fresh_seat v.coordinator.settings L F 1 in
    let at = seat_at v L F mon.0 h.story m in
    let t = taken_is d in
    let next = there_at (frames_to mon.0 v.coordinator.journal) seat.taken (omega (arith, t, sent_is, more)) in
    at_seat v mon.0 (CanGoDown v mon.0) d (has_seat v L F mon.0 h.story m) (record {
      frame = next.0;
      next = next.1;
      accepted = down_taken v.coordinator.settings L F v.coordinator.journal v.seats raises work mon seat next.0 h m at next.1;
    })

pub down_with : (v v' : NodesView) (L : LogSet) (F : List (List ℕ)) (raises raises' : ℕ) (work : Work) (mon : Mon) → HoldsWith v L F raises work → has work mon.0 ≡ true
    → AtSeat v mon.0 (GoesDown mon.0 v v') → raises' ≡ raises
    → Leaves (story_with v L F) (Down mon) v'.coordinator.settings L F v'.coordinator.journal v'.seats raises' work
down_with v v' L F raises raises' work mon h busy goes room =
    let seat = seat_of v L F mon.0 in
    let m = h.within mon.0 busy in
    let down = goes (fresh_seat v.coordinator.settings L F 1) in
    subst (λ (z : NodesView). Leaves (story_with v L F) (Down mon) z.coordinator.settings L F z.coordinator.journal z.seats raises' work) (sym down.is)
    (down_leaves v.coordinator.settings L F v.coordinator.journal v.seats raises raises' work mon seat (taking seat.monitor down.frame) down.frame h busy (seat_at v L F mon.0 h.story m) down.next refl room)

-- ---- retunes

pub retune_with : (v v' : NodesView) (L : LogSet) (F : List (List ℕ)) (raises raises' : ℕ) (work work' : Work) (tuning : Tuning) (k epsilon : ℕ) → HoldsWith v L F raises work
    → k ≡ tuning.k → epsilon ≡ tuning.epsilon → retune_refusal_of v.coordinator.settings v.coordinator.journal k epsilon ≡ None → v' ≡ retuned v k epsilon
    → All (IsEntryOf v'.coordinator.settings.monitors v'.coordinator.settings.objects) v'.coordinator.journal
    → Adds v'.coordinator.journal (length v.coordinator.journal) work work' → raises' ≡ raises
    → Leaves (story_with v L F) (Retune tuning) v'.coordinator.settings L F v'.coordinator.journal v'.seats raises' work'
retune_with v v' L F raises raises' work work' tuning k epsilon h k_is epsilon_is none is entries adds room =
    let S = v.coordinator.settings in
    let j = v.coordinator.journal in
    let same : v' ≡ retuned v tuning.k tuning.epsilon = is ∙ ap₂ (λ (a b : ℕ). retuned v a b) k_is epsilon_is in
    subst (λ (z : NodesView). Leaves (story_with v L F) (Retune tuning) z.coordinator.settings L F z.coordinator.journal z.seats raises' work') (sym same)
    (retune_leaves S S L F j (j ++ turn_of S j (n.Tuned tuning.k (pos tuning.epsilon))) v.seats raises raises' work work' tuning h
    (ap₂ (λ (a b : ℕ). retune_refusal_of S j a b) (sym k_is) (sym epsilon_is) ∙ none) refl refl
    (subst (λ (z : NodesView). All (IsEntryOf z.coordinator.settings.monitors z.coordinator.settings.objects) z.coordinator.journal) same entries)
    (subst (λ (z : NodesView). Adds z.coordinator.journal (length j) work work') same adds) room)

pub retune_goes_on : (v v' : NodesView) (k epsilon : ℕ) → v' ≡ retuned v k epsilon → GoesOn v v'
retune_goes_on v v' k epsilon is = subst (λ (z : NodesView). GoesOn v z) (sym is) (record {
  settings = refl;
  longer = grows_to v.coordinator.journal (turn_of v.coordinator.settings v.coordinator.journal (n.Tuned k (pos epsilon)));
})

-- ---- what is enabled, and what is not

pub check_on : (v : NodesView) (L : LogSet) (F : List (List ℕ)) (raises : ℕ) (work : Work) (mon : Mon) (checked_now : Checked) (reads : MonitorView) → HoldsWith v L F raises work → has work mon.0 ≡ true
    → AtSeat v mon.0 (λ seat. reads ≡ seat.monitor) → checked_now ≡ checked_at reads.setup reads.trail → (checked_now ≡ Nothing → ⊥) → is_some (next_of (story_with v L F) (Check mon)) ≡ true
check_on v L F raises work mon checked_now reads h busy read answer some =
    check_enabled v.coordinator.settings L F v.coordinator.journal v.seats raises work mon (seat_of v L F mon.0) checked_now h busy (seat_at v L F mon.0 h.story (h.within mon.0 busy))
    (answer ∙ ap (λ (x : MonitorView). checked_at x.setup x.trail) (read (fresh_seat v.coordinator.settings L F 1))) some

pub up_on : (v : NodesView) (L : LogSet) (F : List (List ℕ)) (raises : ℕ) (work : Work) (mon : Mon) (got sent : ℕ) (reads : MonitorView) → HoldsWith v L F raises work → has work mon.0 ≡ true
    → AtSeat v mon.0 (λ seat. got ≡ seat.got) → AtSeat v mon.0 (λ seat. reads ≡ seat.monitor) → sent ≡ length (sent_by reads.trail) → got < sent → is_some (next_of (story_with v L F) (Up mon)) ≡ true
up_on v L F raises work mon got sent reads h busy got_is read sent_is more =
    let seat = seat_of v L F mon.0 in
    let d = fresh_seat v.coordinator.settings L F 1 in
    let g = got_is d in
    let s : sent ≡ length (sent_by seat.monitor.trail) = sent_is ∙ ap (λ (x : MonitorView). length (sent_by x.trail)) (read d) in
    up_enabled v.coordinator.settings L F v.coordinator.journal v.seats raises work mon seat h busy (seat_at v L F mon.0 h.story (h.within mon.0 busy)) (omega (arith, g, s, more))

pub up_off : (v : NodesView) (L : LogSet) (F : List (List ℕ)) (raises : ℕ) (work : Work) (mon : Mon) (got sent : ℕ) (reads : MonitorView) → HoldsWith v L F raises work → has work mon.0 ≡ true
    → AtSeat v mon.0 (λ seat. got ≡ seat.got) → AtSeat v mon.0 (λ seat. reads ≡ seat.monitor) → sent ≡ length (sent_by reads.trail) → sent ≤ got → next_of (story_with v L F) (Up mon) ≡ None
up_off v L F raises work mon got sent reads h busy got_is read sent_is less =
    let seat = seat_of v L F mon.0 in
    let d = fresh_seat v.coordinator.settings L F 1 in
    let g = got_is d in
    let s : sent ≡ length (sent_by seat.monitor.trail) = sent_is ∙ ap (λ (x : MonitorView). length (sent_by x.trail)) (read d) in
    up_stays v.coordinator.settings L F v.coordinator.journal v.seats raises work mon seat h busy (seat_at v L F mon.0 h.story (h.within mon.0 busy)) (omega (arith, g, s, less))

pub down_on : (v : NodesView) (L : LogSet) (F : List (List ℕ)) (raises : ℕ) (work : Work) (mon : Mon) (taken sent : ℕ) → HoldsWith v L F raises work → has work mon.0 ≡ true
    → AtSeat v mon.0 (λ seat. taken ≡ seat.taken) → sent ≡ length (frames_to mon.0 v.coordinator.journal) → taken < sent → is_some (next_of (story_with v L F) (Down mon)) ≡ true
down_on v L F raises work mon taken sent h busy taken_is sent_is more =
    let t = taken_is (fresh_seat v.coordinator.settings L F 1) in
    down_enabled v.coordinator.settings L F v.coordinator.journal v.seats raises work mon (seat_of v L F mon.0) h busy (seat_at v L F mon.0 h.story (h.within mon.0 busy)) (omega (arith, t, sent_is, more))

pub down_off : (v : NodesView) (L : LogSet) (F : List (List ℕ)) (raises : ℕ) (work : Work) (mon : Mon) (taken sent : ℕ) → HoldsWith v L F raises work → has work mon.0 ≡ true
    → AtSeat v mon.0 (λ seat. taken ≡ seat.taken) → sent ≡ length (frames_to mon.0 v.coordinator.journal) → sent ≤ taken → next_of (story_with v L F) (Down mon) ≡ None
down_off v L F raises work mon taken sent h busy taken_is sent_is less =
    let t = taken_is (fresh_seat v.coordinator.settings L F 1) in
    down_stays v.coordinator.settings L F v.coordinator.journal v.seats raises work mon (seat_of v L F mon.0) h busy (seat_at v L F mon.0 h.story (h.within mon.0 busy)) (omega (arith, t, sent_is, less))

-- ---- all seats

pub one_of : {X : Type 0} (xs : List X) (k : ℕ) → k < length xs → X
one_of xs k within = (there_at xs k within).0

pub next_place : (k : ℕ) → k + 1 - 1 ≡ k
next_place k = omega arith

pub trails_again : (seats : List Seat) → map (λ (m : MonitorView). m.trail) (map (λ (seat : Seat). seat.monitor) seats) ≡ trails_of seats
trails_again [] = refl
trails_again (seat ∷ seats) = ap (λ (ts : List (List Entry)). seat.monitor.trail ∷ ts) (trails_again seats)

-- the places of one seat more
pub places_more : (seats : List Seat) (j : ℕ) (list : List (List ℕ)) (now : MonitorView) (places : List ℕ) (within : j < length seats) → list ≡ map places_in (take j seats)
    → ((d : Seat) → now ≡ (get_or seats (j + 1 - 1) d).monitor) → places ≡ places_at now.setup now.trail → list ++ places ∷ [] ≡ map places_in (take (j + 1) seats)
places_more seats j list now places within so_far read is =
    let d = one_of seats j within in
    let same : now ≡ (get_or seats j d).monitor = read d ∙ ap (λ i. (get_or seats i d).monitor) (next_place j) in
    ap₂ (λ (xs : List (List ℕ)) (x : List ℕ). xs ++ x ∷ []) so_far (is ∙ ap (λ (m : MonitorView). places_at m.setup m.trail) same)
    ∙ sym (map-append places_in (take j seats) (get_or seats j d ∷ []))
    ∙ ap (map places_in) (sym (take_more seats j d within))

-- ---- the parts alone

pub parts_are : (v : NodesView) (L : LogSet) (F : List (List ℕ)) (coordinator : CoordinatorView) (monitors : List MonitorView) (settings : Setup) → settings ≡ coordinator.settings → coordinator ≡ v.coordinator
    → monitors ≡ map (λ (seat : Seat). seat.monitor) v.seats
    → record { settings = settings; logs = L; from = F; journal = coordinator.journal; trails = map (λ (m : MonitorView). m.trail) monitors } ≡ story_with v L F
parts_are v L F coordinator monitors settings as_made same are =
    let made : Setup → CoordinatorView → List (List Entry) → StoryView = λ z x ts. record { settings = z; logs = L; from = F; journal = x.journal; trails = ts } in
    ap (λ (z : Setup). made z coordinator (map (λ (m : MonitorView). m.trail) monitors)) as_made
    ∙ ap₂ (λ (x : CoordinatorView) (ts : List (List Entry)). made x.settings x ts) same
    (ap (λ (ms : List MonitorView). map (λ (m : MonitorView). m.trail) ms) are ∙ trails_again v.seats)

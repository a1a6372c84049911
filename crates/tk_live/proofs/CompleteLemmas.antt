-- What stands once all workers have ended and all links are back.
use Rattle.std.proofs.Common.{◌≡◌, ◌≤◌, ◌<◌, ◌+◌, ◌-◌, ◌^◌, ◌⊎◌, ℕ, zero, suc, List, [], ◌∷◌, length, length-append, map, take, get_or, min, sum_by, true, Option, Some, None, IfSome, All, refl, sym, ap, subst, ◌∙◌, inl, inr, arith, add-one, append-nil}
use Rattle.std.specs.List.{range_with_len}
use Rattle.std.proofs.Math.ListN.{get_or-eq_default}
use Rattle.std.proofs.Math.Seq.{take-length, take-suc}
use Rattle.std.proofs.lemmas.Bool.{cases_lt}
use Rattle.std.proofs.lemmas.List.{length-map}
use Rattle.std.proofs.lemmas.List.Elements.{All-map}
use Rattle.std.proofs.lemmas.List.Sums.{sum_by-append, sum_by-cons}
use Rattle.tk_frames.proofs.SizeLemmas.{length-spelling}
use Rattle.tk_frames.specs.Spelling.{IsVersion, spelling}
use Rattle.tk_frames.specs.declared.frame.Frame.{Frame}
use Rattle.tk_frames.specs.declared.frame.Frame.TheVariants as f
use Rattle.tk_base.specs.Settings.{Setup}
use Rattle.tk_end.specs.Link.{LinkView}
use Rattle.tk_hub.specs.End.{CoversHeard, EachCovers, wires_of}
use Rattle.tk_hub.specs.Hub.{HubView, IsHub}
use Rattle.tk_hub.specs.Seats.{IsSeat, link_at}
use Rattle.tk_input.specs.Logs.{LogSet}
use Rattle.tk_journal.specs.Laws.{IsMonitor}
use Rattle.tk_journal.specs.Links.{frames_from}
use Rattle.tk_journal.specs.Readings.{monitors}
use Rattle.tk_journal.specs.declared.noted.Noted.{Noted}
use Rattle.tk_monitor.specs.Monitored.{MonitorView}
use Rattle.tk_story.specs.Ends.{as_made, joined, kept_by, made_for}
use Rattle.tk_story.specs.Story.{StoryView}
use Rattle.tk_story.specs.declared.ends.coord_end.CoordEnd.{CoordEnd}
use Rattle.tk_story.specs.declared.ends.mon_end.MonEnd.{MonEnd}
use Rattle.tk_trail.specs.Readings.{is_stopped, taken_by}
use Rattle.tk_wire.specs.Meanings.{Counts}
use Rattle.tk_wire.specs.Parse.{spellings}
use Rattle.tk_world.proofs.RangeLemmas.{summed_more}
use Rattle.tk_live.specs.Carried.{bytes_of}
use Rattle.tk_live.specs.Complete.{IsComplete, heard_at, took_in}
use Rattle.tk_live.specs.Hosting.{Hosts}
use Rattle.tk_live.specs.Hosting.{Writes, all_told}
use Rattle.tk_live.specs.Odd.{IsSomeOdd}
use Rattle.tk_live.specs.declared.parting.Parting.{Parting}
use Rattle.tk_live.specs.declared.parting.Parting.TheVariants as p
use Rattle.tk_base.specs.History.{IsFront}
use Rattle.tk_coord.specs.Coordinator.{CoordinatorView}
use Rattle.tk_hub.specs.Seats.{HasGiven}
use Rattle.tk_input.specs.Logs.{IsCut}
use Rattle.tk_input.specs.Sink.{GrowsByFront}
use Rattle.tk_journal.specs.Legal.{opened, start}
use Rattle.tk_journal.specs.Readings.{monitors as numbers}
use Rattle.tk_load.specs.Whole.{AreAgreed}
use Rattle.tk_load.specs.declared.input.Input.{Input}
use Rattle.tk_story.specs.Ends.{AreOfOneRun, HaveNothingOdd}
use Rattle.tk_trail.specs.declared.entry.Entry.{Entry}
use Rattle.tk_wire.specs.Net.{NetState}
use Rattle.std.specs.Prelude.{is_some}
use Rattle.tk_live.specs.Traffic.{traffic_of}
use Rattle.std.proofs.lemmas.Bool.{false≢true}
use Rattle.std.proofs.lemmas.List.FromFn.{length-map-range_with_len}

-- ---- what the hub heard

-- the version of a link, and 1 where there is none
abbrev pub version_in : {W : Type 0} → Option (LinkView W) → ℕ
version_in None = 1
version_in (Some link) = link.version

is_version : {W : Type 0} (run : ℕ) (journal : List Noted) (mon : ℕ) (link : Option (LinkView W)) → IsSeat run journal mon link → IsVersion (version_in link)
is_version run journal mon None seat = inl refl
is_version run journal mon (Some link) seat = seat.version

-- how many bytes were taken from the wire of a seat
abbrev pub taken_in : {W : Type 0} → (W → Counts) → Option (LinkView W) → ℕ
taken_in counts None = 0
taken_in counts (Some link) = (counts link.wire).taken

-- those of all wires are those of all seats
pub sum_wires : {W : Type 0} (counts : W → Counts) (links : List (Option (LinkView W))) → sum_by (λ wire. (counts wire).taken) (wires_of links) ≡ sum_by (taken_in counts) links
sum_wires counts [] = refl
sum_wires counts (None ∷ links) =
    let rest = sum_wires counts links in
    let more = sum_by-cons (taken_in counts) None links in
    omega (arith, rest, more)
sum_wires counts (Some link ∷ links) =
    let rest = sum_wires counts links in
    let one = sum_by-cons (λ wire. (counts wire).taken) link.wire (wires_of links) in
    let two = sum_by-cons (taken_in counts) (Some link) links in
    omega (arith, rest, one, two)

-- a Hello has 18 bytes
bytes_heard : (version run speaks mon : ℕ) (frames : List Frame) → length (spellings version (f.Hello run speaks (record { 0 = mon }) ∷ frames)) ≡ 18 + bytes_of version frames
bytes_heard version run speaks mon frames =
    let hello : length (spelling version (f.Hello run speaks (record { 0 = mon }))) ≡ 18 = length-spelling (f.Hello run speaks (record { 0 = mon })) in
    let both = length-append (spelling version (f.Hello run speaks (record { 0 = mon }))) (spellings version frames) in
    omega (arith, hello, both)

-- of each seat that is taken no fewer bytes were taken than were heard
seat_heard : {W : Type 0} (counts : W → Counts) (run : ℕ) (journal : List Noted) (mon : ℕ) (link : LinkView W) → CoversHeard counts run journal mon link
    → min (18 + bytes_of link.version (frames_from mon journal)) (2 ^ 64 - 1) ≤ (counts link.wire).taken
seat_heard counts run journal mon link covers =
    let hello = bytes_heard link.version run link.version mon (frames_from mon journal) in omega (arith, covers, hello)

-- no less of any is no less of all
sum_least : {X : Type 0} (f : X → ℕ) (g : ℕ → ℕ) (xs : List X) (d : X) (n : ℕ) → n ≤ length xs → ((i : ℕ) → i < length xs → min (g (i + 1)) (2 ^ 64 - 1) ≤ f (get_or xs i d))
    → min (sum_by g (range_with_len 1 n)) (2 ^ 64 - 1) ≤ sum_by f (take n xs)
sum_least f g xs d zero within each = omega arith
sum_least f g xs d (suc n) within each =
    let before = sum_least f g xs d n (omega (arith, within)) each in
    let here : n < length xs = omega (arith, within) in
    let more : sum_by f (take (suc n) xs) ≡ sum_by f (take n xs) + (f (get_or xs n d) + 0) = ap (sum_by f) (take-suc xs n d here) ∙ sum_by-append f (take n xs) (get_or xs n d ∷ []) ∙ ap (λ k. sum_by f (take n xs) + k) (sum_by-cons f (get_or xs n d) []) in
    let next = summed_more g n in
    let range : sum_by g (range_with_len 1 (suc n)) ≡ sum_by g (range_with_len 1 (n + 1)) = ap (λ k. sum_by g (range_with_len 1 k)) (sym (add-one n)) in
    omega (arith, before, more, next, range, each n here)

module _ {W : Type 0} (counts : W → Counts) (hub : HubView W) (kept : IsHub hub) (covers : EachCovers counts hub) where
  -- the version in which each monitor said its Hello
  abbrev pub said : ℕ → ℕ
  said mon = version_in (link_at hub.links (mon - 1))

  place_of : (mon : ℕ) → (mon - 1 < length hub.links) ⊎ (length hub.links ≤ mon - 1)
  place_of mon = cases_lt (mon - 1) (length hub.links)

  pub versions : (mon : ℕ) → IsVersion (said mon)
  versions mon = elim (place_of mon) [
    | inl within ↦ is_version hub.run hub.coordinator.journal ((mon - 1) + 1) (link_at hub.links (mon - 1)) (kept.seats.each (mon - 1) within)
    | inr past ↦ subst (λ o. IsVersion (version_in o)) (sym (get_or-eq_default hub.links None past)) (inl refl)
  ]

  -- a seat that is taken, by place from 0
  heard_there : (place : ℕ) (o : Option (LinkView W)) → link_at hub.links place ≡ o → IfSome o (CoversHeard counts hub.run hub.coordinator.journal (place + 1)) → (o ≡ None → ⊥)
      → min (18 + bytes_of (version_in o) (frames_from (place + 1) hub.coordinator.journal)) (2 ^ 64 - 1) ≤ taken_in counts o
  heard_there place None is c taken = absurd (taken refl)
  heard_there place (Some link) is c taken = seat_heard counts hub.run hub.coordinator.journal (place + 1) link c

  heard_place : (place : ℕ) → (link_at hub.links place ≡ None → ⊥) → min (heard_at said hub.coordinator.journal (place + 1)) (2 ^ 64 - 1) ≤ taken_in counts (link_at hub.links place)
  heard_place place taken =
      let same : (place + 1) - 1 ≡ place = omega arith in
      let version : said (place + 1) ≡ version_in (link_at hub.links place) = ap (λ k. version_in (link_at hub.links k)) same in
      let there = heard_there place (link_at hub.links place) refl (covers place) taken in
      let bytes : bytes_of (said (place + 1)) (frames_from (place + 1) hub.coordinator.journal) ≡ bytes_of (version_in (link_at hub.links place)) (frames_from (place + 1) hub.coordinator.journal)
      = ap (λ k. bytes_of k (frames_from (place + 1) hub.coordinator.journal)) version in
      omega (arith, there, bytes)

  -- all wires together
  pub heard_all : ((place : ℕ) → place < length hub.links → link_at hub.links place ≡ None → ⊥)
      → min (sum_by (heard_at said hub.coordinator.journal) (monitors hub.coordinator.settings)) (2 ^ 64 - 1) ≤ sum_by (λ wire. (counts wire).taken) (wires_of hub.links)
  heard_all taken =
      let least = sum_least (taken_in counts) (heard_at said hub.coordinator.journal) hub.links None (length hub.links) (omega arith) (λ i within. heard_place i (taken i within)) in
      let wires = sum_wires counts hub.links in
      let whole : sum_by (taken_in counts) (take (length hub.links) hub.links) ≡ sum_by (taken_in counts) hub.links = ap (sum_by (taken_in counts)) (take-length hub.links) in
      let range : sum_by (heard_at said hub.coordinator.journal) (range_with_len 1 (length hub.links)) ≡ sum_by (heard_at said hub.coordinator.journal) (monitors hub.coordinator.settings)
      = ap (λ k. sum_by (heard_at said hub.coordinator.journal) (range_with_len 1 k)) kept.seats.count in
      omega (arith, least, wires, whole, range)

-- ---- the workers

-- in place of each version the one that they all have
pub same_versions : {A B C : Type 0} (made : A → B) (version : A → ℕ) (one : ℕ) (of : C → B) (k : ℕ → A → ℕ) (xs : List A) (ys : List C)
    → map {B = B × ℕ} (λ x. (made x, version x)) xs ≡ map {B = B × ℕ} (λ y. (of y, one)) ys → sum_by (λ x. k (version x) x) xs ≡ sum_by (k one) xs
same_versions made version one of k [] ys is = refl
same_versions made version one of k (x ∷ xs) [] is = absurd (cc)
same_versions {A} {B} made version one of k (x ∷ xs) (y ∷ ys) is =
    let rest : map {B = B × ℕ} (λ x. (made x, version x)) xs ≡ map {B = B × ℕ} (λ y. (of y, one)) ys = cc in
    let pair : (made x, version x) ≡ (of y, one) = cc in
    let here : version x ≡ one = ap (λ (p : B × ℕ). p.1) pair in
    let more = same_versions made version one of k xs ys rest in
    let left = sum_by-cons (λ x. k (version x) x) x xs in
    let right = sum_by-cons (k one) x xs in
    let one_ : k (version x) x ≡ k one x = ap (λ v. k v x) here in
    omega (arith, more, left, right, one_)

pub firsts : {A B C : Type 0} (made : A → B) (version : A → ℕ) (one : ℕ) (of : C → B) (xs : List A) (ys : List C)
    → map {B = B × ℕ} (λ x. (made x, version x)) xs ≡ map {B = B × ℕ} (λ y. (of y, one)) ys → map made xs ≡ map of ys
firsts made version one of [] [] is = refl
firsts made version one of [] (y ∷ ys) is = absurd (cc)
firsts made version one of (x ∷ xs) [] is = absurd (cc)
firsts {A} {B} made version one of (x ∷ xs) (y ∷ ys) is =
    let rest : map {B = B × ℕ} (λ x. (made x, version x)) xs ≡ map {B = B × ℕ} (λ y. (of y, one)) ys = cc in
    let pair : (made x, version x) ≡ (of y, one) = cc in
    let here : made x ≡ of y = ap (λ (p : B × ℕ). p.0) pair in
    ap (λ b. b ∷ map made xs) here ∙ ap (λ bs. of y ∷ bs) (firsts made version one of xs ys rest)

pub sum_map : {A B : Type 0} (f : B → ℕ) (g : A → B) (xs : List A) → sum_by f (map g xs) ≡ sum_by (λ x. f (g x)) xs
sum_map f g [] = refl
sum_map f g (x ∷ xs) = sum_by-cons f (g x) (map g xs) ∙ (ap (λ k. f (g x) + k) (sum_map f g xs) ∙ sym (sum_by-cons (λ y. f (g y)) x xs))

-- ---- a story that is over

-- the hub of a run that is done, with what was taken from its wires and by its monitors
module _ {W : Type 0} (counts : W → Counts) (names : List (List ℕ)) (version : ℕ) (old hub : HubView W) (net net1 : NetState) (second third : ℕ) (was now : Option (List ℕ)) (logs : LogSet) (from : List (List ℕ)) (trails : List (List Entry)) where
  abbrev pub story : StoryView
  story = record { settings = hub.coordinator.settings; logs = logs; from = from; journal = hub.coordinator.journal; trails = trails }

  given : (place : ℕ) (o : Option (LinkView W)) (count : ℕ) → HasGiven count o → o ≡ None → ⊥
  given place None count has is = has
  given place (Some link) count has is = absurd (cc)

  stops : length trails ≡ hub.coordinator.settings.monitors → All (λ t. is_stopped t ≡ true) trails → (mon : ℕ) → IsMonitor hub.coordinator.settings mon → is_stopped (get_or trails (mon - 1) []) ≡ true
  stops count all mon m = all (mon - 1) [] (omega (arith, m.from_one, m.within, count))

  pub complete_hub : Hosts p.Finished names old hub net net1 was now → EachCovers counts hub
      → min (net1.taken + sum_by (λ wire. (counts wire).taken) (wires_of hub.links)) (2 ^ 64 - 1) ≤ second
      → min (second + sum_by (took_in version) trails) (2 ^ 64 - 1) ≤ third
      → length trails ≡ hub.coordinator.settings.monitors → All (λ t. is_stopped t ≡ true) trails
      → IsComplete names version story (traffic_of was now net.taken third)
  complete_hub h covers wires trails_ count all =
      let heard = heard_all counts hub h.kept covers (λ place within is. given place (link_at hub.links place) _ (h.tells.given place within) is) in
      record {
        stopped = h.tells.stopped;
        halted = stops count all;
        written = h.writes;
        heard = record {
          said = said counts hub h.kept covers;
          versions = versions counts hub h.kept covers;
          taken = omega (arith, heard, wires, trails_, h.taken);
        };
      }

-- the same of the ends that keep its coordinator
pub complete_ends : (names : List (List ℕ)) (version : ℕ) (was now : Option (List ℕ)) (logs : LogSet) (from : List (List ℕ)) (taken taken' : ℕ) (coordinator : CoordEnd) (monitors : List MonEnd) (c : CoordinatorView)
    → coordinator.coordinator ≡ c
    → IsComplete names version (record { settings = c.settings; logs = logs; from = from; journal = c.journal; trails = map (λ (end : MonEnd). end.monitor.trail) monitors }) (traffic_of was now taken taken')
    → IsComplete names version (joined (kept_by coordinator monitors) logs from) (traffic_of was now taken taken')
complete_ends names version was now logs from taken taken' coordinator monitors c same complete =
    subst (λ (k : CoordinatorView). IsComplete names version (record { settings = k.settings; logs = logs; from = from; journal = k.journal; trails = map (λ (end : MonEnd). end.monitor.trail) monitors }) (traffic_of was now taken taken')) (sym same) complete

-- ends of nodes that were made for an input
pub made_run : (input : Input) (from : List (List ℕ)) (coordinator : CoordEnd) (monitors : List MonEnd) → AreAgreed input.names input.settings input.logs → IsCut input.logs.logs from
    → coordinator.coordinator.settings ≡ input.settings → IsFront (opened (start input.settings)) coordinator.coordinator.journal
    → map (λ (end : MonEnd). as_made end.monitor) monitors ≡ map (made_for input.settings input.logs from) (numbers input.settings)
    → AreOfOneRun coordinator monitors input.logs input.settings from
made_run input from coordinator monitors agreed cut settings begins made = record {
  made = settings;
  begins = begins;
  objects = sym agreed.objects;
  logged = sym agreed.monitors;
  starts = cut;
  monitors = made;
}

-- there are as many of them as monitors
pub count_made : (setup : Setup) (f : ℕ → MonitorView) (monitors : List MonEnd) → map (λ (end : MonEnd). as_made end.monitor) monitors ≡ map f (numbers setup) → length monitors ≡ setup.monitors
count_made setup f monitors made =
    sym (length-map monitors (λ (end : MonEnd). as_made end.monitor)) ∙ ap (λ xs. length xs) made ∙ length-map-range_with_len f 1 setup.monitors

-- ---- what is odd

some_is : {X : Type 0} (o : Option X) → is_some o ≡ true → o ≡ None → ⊥
some_is None is none = false≢true is
some_is (Some x) is none = absurd (cc)

-- where some end has what it did not take, it is not so that none has
pub odd_never : (coordinator : CoordEnd) (monitors : List MonEnd) → length monitors ≡ coordinator.coordinator.settings.monitors → IsSomeOdd coordinator.odd (map (λ (end : MonEnd). end.odd) monitors)
    → HaveNothingOdd (kept_by coordinator monitors) → ⊥
odd_never coordinator monitors count (inl odd) nothing = some_is coordinator.odd odd nothing.coordinator
odd_never coordinator monitors count (inr odd) nothing =
    let place = odd.0 in
    let within : place < length monitors = omega (arith, odd.1.0, length-map monitors (λ (end : MonEnd). end.odd)) in
    let m : IsMonitor coordinator.coordinator.settings (place + 1) = record { from_one = omega arith; within = omega (arith, within, count) } in
    let same : (place + 1) - 1 ≡ place = omega arith in
    some_is (get_or (map (λ (end : MonEnd). end.odd) monitors) place None) odd.1.1
    (ap (λ k. get_or (map (λ (end : MonEnd). end.odd) monitors) k None) (sym same) ∙ nothing.monitors (place + 1) m)

-- all that was written is a front of the lines, however the loop ended
pub writes_front : {W : Type 0} (parting : Parting) (names : List (List ℕ)) (hub : HubView W) (was now : Option (List ℕ)) → Writes parting names hub was now → GrowsByFront was now (all_told names hub)
writes_front p.Finished names hub was now w = (all_told names hub, [], sym (append-nil (all_told names hub)), w)
writes_front p.Alarmed names hub was now w = (all_told names hub, [], sym (append-nil (all_told names hub)), w)
writes_front p.NetFailed names hub was now w = (all_told names hub, [], sym (append-nil (all_told names hub)), w)
writes_front p.Failed names hub was now w = w
writes_front p.Refused names hub was now w = w
writes_front p.WriteFailed names hub was now w = w
writes_front p.NoMemory names hub was now w = w

-- ---- what the workers leave

mapped_twice : {X Y Z : Type 0} (f : Y → Z) (g : X → Y) (xs : List X) → map f (map g xs) ≡ map (λ x. f (g x)) xs
mapped_twice f g [] = refl
mapped_twice f g (x ∷ xs) = ap (λ rest. f (g x) ∷ rest) (mapped_twice f g xs)

module _ {A : Type 0} (end : A → MonEnd) (version_of : A → ℕ) (version : ℕ) (made : ℕ → MonitorView) (numbers_ : List ℕ) (workers : List A) (is : map {B = MonitorView × ℕ} (λ w. (as_made (end w).monitor, version_of w)) workers ≡ map {B = MonitorView × ℕ} (λ m. (as_made (made m), version)) numbers_) where
  -- their ends are those of the monitors that were made
  pub ends_made : map (λ (e : MonEnd). as_made e.monitor) (map end workers) ≡ map (λ m. as_made (made m)) numbers_
  ends_made = mapped_twice (λ (e : MonEnd). as_made e.monitor) end workers ∙ firsts (λ w. as_made (end w).monitor) version_of version (λ m. as_made (made m)) workers numbers_ is

  -- and what they took is in the one version
  pub trails_sum : sum_by (λ w. bytes_of (version_of w) (taken_by (end w).monitor.trail)) workers ≡ sum_by (took_in version) (map (λ (e : MonEnd). e.monitor.trail) (map end workers))
  trails_sum =
      same_versions (λ w. as_made (end w).monitor) version_of version (λ m. as_made (made m)) (λ v w. bytes_of v (taken_by (end w).monitor.trail)) workers numbers_ is
      ∙ sym (sum_map (took_in version) (λ (e : MonEnd). e.monitor.trail) (map end workers) ∙ sum_map (λ (e : MonEnd). took_in version e.monitor.trail) end workers)

  pub trails_stopped : All (λ w. is_stopped (end w).monitor.trail ≡ true) workers → All (λ t. is_stopped t ≡ true) (map (λ (e : MonEnd). e.monitor.trail) (map end workers))
  trails_stopped all = All-map (λ t. is_stopped t ≡ true) (λ (e : MonEnd). e.monitor.trail) (map end workers) (All-map (λ (e : MonEnd). is_stopped e.monitor.trail ≡ true) end workers all)

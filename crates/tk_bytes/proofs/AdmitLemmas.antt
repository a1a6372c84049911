-- How the hub admits a monitor whose Hello waits on a wire, where nobody else is held.
use Rattle.std.proofs.Common.{◌≡◌, ◌↔◌, ◌≤◌, ◌<◌, ℕ, suc, zero, ◌-◌, ◌++◌, List, [], ◌∷◌, length, length-append, take, get_or, set, Option, Some, None, Result, Ok, Err, true, refl, ap, ap₂, sym, ◌∙◌, arith, subst, inl, inr}
use Rattle.std.specs.Prelude.{IsErr, IsOk, count_by, is_some}
use Rattle.std.proofs.lemmas.Bool.{cases_eq}
use Rattle.std.proofs.lemmas.List.{append-nil, get_or-set_other, get_or-set_same, take_all}
use Rattle.slab.specs.Slab.{Slab, Updates, get, slab_len}
use Rattle.tk_base.specs.declared.ids.Mon.{Mon}
use Rattle.tk_base.specs.declared.memory.NoMemory.{NoMemory}
use Rattle.tk_frames.specs.Spelling.{IsSpelling, spelling}
use Rattle.tk_frames.specs.declared.frame.Frame.{Frame}
use Rattle.tk_frames.specs.declared.frame.Frame.TheVariants as f
use Rattle.tk_frames.proofs.EncodingLemmas.{one_spelling}
use Rattle.tk_frames.proofs.SizeLemmas.{length-spelling}
use Rattle.tk_wire.specs.Meanings.{Counts, Traffic}
use Rattle.tk_wire.specs.SureWire.{SureView, counts_sure}
use Rattle.tk_end.specs.Link.{LinkView}
use Rattle.tk_hub.specs.Door.{DoorView, GreetsAt, GreetsHeld, GreetsOne, GreetsSlot, GreetsUpTo, IsAdmitted, IsAnswered, IsWelcomed}
use Rattle.tk_hub.specs.Hub.{HubView, IsHub, door_of, seats_of, with_door}
use Rattle.tk_hub.specs.Seats.{IsFree, link_at, monitors_of}
use Rattle.tk_hub.specs.Visitor.{BeginsWithHello, Gathers, GoesOn, Greets, HasGreeted, HasStrangeLength, IsLost, IsUnlessMemory, VisitorView, hello_of}
use Rattle.tk_hub.specs.declared.lobby.Admitted.{Admitted}
use Rattle.tk_hub.specs.declared.lobby.Admitted.TheVariants.{Kept, Closed}
use Rattle.tk_hub.specs.declared.visitor.Greeting.{Greeting}
use Rattle.tk_hub.specs.declared.visitor.Greeting.TheVariants as g
use Rattle.tk_hub.specs.declared.visitor.Guest.{Guest}
use Rattle.tk_hub.proofs.VisitorLemmas.{hello_first, hello_is_answered}
use Rattle.tk_bytes.specs.Greeting.{CanJoin, IsNobody, IsOpening, SeatsOne, hello_in, waiting_on}
use Rattle.tk_bytes.specs.Line.{IsLine}
use Rattle.tk_bytes.specs.Way.{AreJoined, IsSure}
use Rattle.tk_bytes.specs.declared.line.Line.{Line}
use Rattle.tk_bytes.proofs.JoinLemmas.{none_of}

-- ---- who is held

-- where nobody is held there is room
count_nobody : (slots : List (Option (VisitorView SureView))) → ((key : ℕ) → get_or slots key None ≡ None) → count_by is_some slots ≡ 0
count_nobody [] none = refl
count_nobody (None ∷ slots) none = count_nobody slots (λ key. none (suc key))
count_nobody (Some v ∷ slots) none = let never = none 0 in absurd (cc)

pub nobody_counts : (held : Slab (VisitorView SureView)) → IsNobody held → slab_len held ≡ 0
nobody_counts held none = count_nobody held.slots none

-- so a new connection is held
pub is_kept : (result : Result Admitted NoMemory) (answer : Admitted) (held : Slab (VisitorView SureView)) → result ≡ Ok answer → ((result ≡ Ok Closed) ↔ (slab_len held ≡ 64)) → IsNobody held → result ≡ Ok Kept
is_kept result Kept held is closed none = is
is_kept result Closed held is closed none = let full = closed.0 is in let n = nobody_counts held none in absurd (omega (arith, full, n))

-- one connection is held under this key, and no other
pub record IsOne (key : ℕ) (v : VisitorView SureView) (held : Slab (VisitorView SureView)) : Type 0 where
  pub here : get held key ≡ Some v
  pub others : (other : ℕ) → (other ≡ key → ⊥) → get held other ≡ None

-- what an answer leaves under other keys
others_stay : (run monitors key : ℕ) (greeting : Greeting) (after : VisitorView SureView) (old new : DoorView SureView) → IsAnswered run monitors key greeting after old new → (other : ℕ) → (other ≡ key → ⊥) → get new.lobby.held other ≡ get old.lobby.held other
others_stay run monitors key g.Nothing after old new a = a.updates.others
others_stay run monitors key g.NoMemory after old new a = a.updates.others
others_stay run monitors key g.Strange after old new a = a.0.updates.others
others_stay run monitors key (g.Hello guest) after old new a = a.0.updates.others

at_slot : (run monitors key : ℕ) (o : Option (VisitorView SureView)) (v : VisitorView SureView) (old new : DoorView SureView) → o ≡ Some v → GreetsSlot counts_sure run monitors key (Ok tt) o old new → GreetsOne counts_sure run monitors key (Ok tt) v old new
at_slot run monitors key o v old new is greets = subst (λ (x : Option (VisitorView SureView)). GreetsSlot counts_sure run monitors key (Ok tt) x old new) is greets

at_none : (run monitors key : ℕ) (o : Option (VisitorView SureView)) (old new : DoorView SureView) → o ≡ None → GreetsSlot counts_sure run monitors key (Ok tt) o old new → new ≡ old
at_none run monitors key o old new is greets = (subst (λ (x : Option (VisitorView SureView)). GreetsSlot counts_sure run monitors key (Ok tt) x old new) is greets).0

-- the keys below it find nobody
below_it : (run monitors key keys : ℕ) (v : VisitorView SureView) (old new : DoorView SureView) → IsOne key v old.lobby.held → keys ≤ key → GreetsUpTo counts_sure run monitors keys old new → new ≡ old
below_it run monitors key zero v old new one below greets = greets
below_it run monitors key (suc keys) v old new one below (mid, greets, last) =
    let same : mid ≡ old = below_it run monitors key keys v old mid one (omega (arith, below)) greets in
    let none : get mid.lobby.held keys ≡ None = ap (λ (d : DoorView SureView). get d.lobby.held keys) same ∙ one.others keys (λ is. absurd (omega (arith, below, is))) in
    at_none run monitors keys (get mid.lobby.held keys) mid new none last ∙ same

-- one greeting is all that happens
one_greeting : (run monitors key keys : ℕ) (v : VisitorView SureView) (old new : DoorView SureView) → IsOne key v old.lobby.held → key < keys → GreetsUpTo counts_sure run monitors keys old new → GreetsOne counts_sure run monitors key (Ok tt) v old new
one_greeting run monitors key zero v old new one above greets = absurd (omega (arith, above))
one_greeting run monitors key (suc keys) v old new one above (mid, greets, last) =
    elim (cases_eq keys key) [
      | inl is ↦
          let same : mid ≡ old = below_it run monitors key keys v old mid one (omega (arith, is)) greets in
          let at : GreetsAt counts_sure run monitors key (Ok tt) old new = subst (λ (d : DoorView SureView). GreetsAt counts_sure run monitors key (Ok tt) d new) same (subst (λ (k : ℕ). GreetsAt counts_sure run monitors k (Ok tt) mid new) is last) in
          at_slot run monitors key (get old.lobby.held key) v old new one.here at
      | inr apart ↦
          let before = one_greeting run monitors key keys v old mid one (omega (arith, above, apart)) greets in
          let none : get mid.lobby.held keys ≡ None = others_stay run monitors key before.greeting before.after old mid before.answered keys apart ∙ one.others keys apart in
          let same : new ≡ mid = at_none run monitors keys (get mid.lobby.held keys) mid new none last in
          subst (λ (d : DoorView SureView). GreetsOne counts_sure run monitors key (Ok tt) v old d) (sym same) before
    ]

is_within : (slots : List (Option (VisitorView SureView))) (key : ℕ) (v : VisitorView SureView) → get_or slots key None ≡ Some v → key < length slots
is_within [] key v is = absurd (cc)
is_within (x ∷ slots) zero v is = omega arith
is_within (x ∷ slots) (suc key) v is = let below = is_within slots key v is in omega (arith, below)

greeted_one : (run monitors key : ℕ) (result : Result (Unit {0}) NoMemory) (v : VisitorView SureView) (old new : DoorView SureView) → IsOk result → IsOne key v old.lobby.held → GreetsHeld counts_sure run monitors result old new → GreetsOne counts_sure run monitors key (Ok tt) v old new
greeted_one run monitors key (Ok x) v old new ok one held =
    let below = is_within old.lobby.held.slots key v one.here in
    one_greeting run monitors key held.keys v old new one (let a = held.all in omega (arith, a, below)) held.greets
greeted_one run monitors key (Err e) v old new ok one held = absurd (cc)

-- ---- what it says

-- a connection of which nothing came, and on whose wire a Hello waits that nothing stands behind
pub record SaysHello (run : ℕ) (guest : Guest) (v : VisitorView SureView) : Type 0 where
  pub tells : v.tells ≡ true
  pub bytes : v.bytes ≡ []
  pub sure : IsSure v.counts
  pub spelled : IsSpelling 1 (hello_of run guest) (spelling 1 (hello_of run guest))
  pub traffic : v.traffic ≡ waiting_on 4096 (spelling 1 (hello_of run guest))

-- the bytes that came of it, and those that did not
came_of : (run : ℕ) (guest : Guest) (v after : VisitorView SureView) → SaysHello run guest v → Gathers v after → after.bytes ++ after.traffic.waiting ≡ spelling 1 (hello_of run guest)
came_of run guest v after says gathers =
    let arrived = gathers.arrived says.tells in
    ap (λ (xs : List ℕ). xs ++ after.traffic.waiting) (gathers.bytes ∙ ap (λ (xs : List ℕ). xs ++ gathers.piece) says.bytes) ∙ sym arrived.waiting ∙ ap (λ (t : Traffic). t.waiting) says.traffic

-- where as many came as a Hello has, all came
whole_came : (run : ℕ) (guest : Guest) (after : VisitorView SureView) → after.bytes ++ after.traffic.waiting ≡ spelling 1 (hello_of run guest) → 18 ≤ length after.bytes → (after.bytes ≡ spelling 1 (hello_of run guest)) × (after.traffic.waiting ≡ [])
whole_came run guest after parts enough =
    let size = length-spelling (hello_of run guest) in
    let all = ap (λ (xs : List ℕ). length xs) parts in
    let two = length-append after.bytes after.traffic.waiting in
    let none : after.traffic.waiting ≡ [] = none_of after.traffic.waiting (omega (arith, size, all, two, enough)) in
    (sym (append-nil after.bytes) ∙ ap (λ (xs : List ℕ). after.bytes ++ xs) (sym none) ∙ parts, none)

begins : (run : ℕ) (guest : Guest) (bytes : List ℕ) → IsSpelling 1 (hello_of run guest) (spelling 1 (hello_of run guest)) → bytes ≡ spelling 1 (hello_of run guest) → BeginsWithHello run guest bytes
begins run guest bytes spelled is =
    let size = ap (λ (xs : List ℕ). length xs) is ∙ length-spelling (hello_of run guest) in
    record {
      within = omega (arith, size);
      front = subst (IsSpelling 1 (hello_of run guest)) (sym (take_all 18 bytes (omega (arith, size)) ∙ is)) spelled;
    }

-- a wire of which no call fails is not lost
not_lost : (wire : SureView) (old new : Counts) → IsSure old → counts_sure wire ≡ new → IsLost old new → ⊥
not_lost wire old new sure counted (inl (faults, ends)) =
    let a = ap (λ (k : Counts). k.faults) counted in
    let b = sure.faults in
    omega (arith, a, b, faults)
not_lost wire old new sure counted (inr (faults, ends)) =
    let a = ap (λ (k : Counts). k.ends) counted in
    let b = sure.ends in
    omega (arith, a, b, ends)

-- the first four bytes of it are no other length
not_strange : (run : ℕ) (guest : Guest) (bytes rest : List ℕ) → IsSpelling 1 (hello_of run guest) (spelling 1 (hello_of run guest)) → bytes ++ rest ≡ spelling 1 (hello_of run guest) → HasStrangeLength bytes → ⊥
not_strange run guest bytes rest spelled parts strange =
    let whole = hello_first run guest (spelling 1 (hello_of run guest)) (begins run guest (spelling 1 (hello_of run guest)) spelled refl) in
    strange.other (take_front 4 bytes rest strange.whole ∙ ap (take 4) parts ∙ whole) where
      take_front : (n : ℕ) (xs ys : List ℕ) → n ≤ length xs → take n xs ≡ take n (xs ++ ys)
      take_front zero xs ys within = refl
      take_front (suc n) [] ys within = absurd (omega (arith, within))
      take_front (suc n) (x ∷ xs) ys within = ap (λ (zs : List ℕ). x ∷ zs) (take_front n xs ys (omega (arith, within)))

-- as many bytes came as it has
enough_came : (run monitors key : ℕ) (guest : Guest) (v : VisitorView SureView) (old new : DoorView SureView) → SaysHello run guest v → (o : GreetsOne counts_sure run monitors key (Ok tt) v old new)
    → (greeting : Greeting) → greeting ≡ o.greeting → 18 ≤ length o.after.bytes
enough_came run monitors key guest v old new says o greeting is = by_greeting greeting is (subst (λ (x : Greeting). Greets run x v o.after) (sym is) o.greets) where
  parts : o.after.bytes ++ o.after.traffic.waiting ≡ spelling 1 (hello_of run guest)
  parts = came_of run guest v o.after says o.gathers

  by_greeting : (greeting : Greeting) → greeting ≡ o.greeting → Greets run greeting v o.after → 18 ≤ length o.after.bytes
  by_greeting g.Nothing is (awaited, steady, none) =
      let waiting = ap (λ (xs : List ℕ). length xs) (none (o.gathers.tells ∙ says.tells)) in
      let size = length-spelling (hello_of run guest) in
      let all = ap (λ (xs : List ℕ). length xs) parts in
      let two = length-append o.after.bytes o.after.traffic.waiting in
      omega (arith, waiting, size, all, two)
  by_greeting (g.Hello other) is (begun, steady, front) = begun.within
  by_greeting g.Strange is (inl (inl strange, steady)) = absurd (not_strange run guest o.after.bytes o.after.traffic.waiting says.spelled parts strange)
  by_greeting g.Strange is (inl (inr strange, steady)) = strange.whole
  by_greeting g.Strange is (inr (awaited, lost)) = absurd (not_lost o.after.wire v.counts o.after.counts says.sure o.counted lost)
  by_greeting g.NoMemory is steady = let never = o.memory.1 (sym is) in absurd (cc)

-- it is greeted as this guest, and all of its Hello came
pub record IsHeard (run monitors key : ℕ) (guest : Guest) (v after : VisitorView SureView) (old new : DoorView SureView) : Type 0 where
  pub bytes : after.bytes ≡ spelling 1 (hello_of run guest)
  pub waiting : after.traffic.waiting ≡ []
  pub gathers : Gathers v after
  pub sure : IsSure after.counts
  pub answered : IsAnswered run monitors key (g.Hello guest) after old new

hello_only : (result : Result (Unit {0}) NoMemory) (greeting : Greeting) (guest : Guest) → result ≡ Ok tt → (IsErr result ↔ (greeting ≡ g.NoMemory)) → IsUnlessMemory greeting (g.Hello guest) → greeting ≡ g.Hello guest
hello_only result greeting guest ok memory (inl none) = let never = memory.1 none in absurd (cc)
hello_only result greeting guest ok memory (inr is) = is

steady_hello : (run : ℕ) (guest : Guest) (v after : VisitorView SureView) → IsSure v.counts → Greets run (g.Hello guest) v after → IsSure after.counts
steady_hello run guest v after sure (begun, steady, front) = record { faults = steady.faults ∙ sure.faults; ends = steady.ends ∙ sure.ends }

heard : (run monitors key : ℕ) (guest : Guest) (v : VisitorView SureView) (old new : DoorView SureView) → SaysHello run guest v → (o : GreetsOne counts_sure run monitors key (Ok tt) v old new) → IsHeard run monitors key guest v o.after old new
heard run monitors key guest v old new says o =
    let parts = came_of run guest v o.after says o.gathers in
    let all = whole_came run guest o.after parts (enough_came run monitors key guest v old new says o o.greeting refl) in
    let is : o.greeting ≡ g.Hello guest = hello_only (Ok tt) o.greeting guest refl o.memory (hello_is_answered run o.greeting v o.after o.greets guest (begins run guest o.after.bytes says.spelled all.0)) in
    record {
      bytes = all.0;
      waiting = all.1;
      gathers = o.gathers;
      sure = steady_hello run guest v o.after says.sure (subst (λ (x : Greeting). Greets run x v o.after) is o.greets);
      answered = subst (λ (x : Greeting). IsAnswered run monitors key x o.after old new) is o.answered;
    }

-- ---- it is admitted

admitted_free : (run monitors : ℕ) (mon : Mon) (after : VisitorView SureView) (old new : DoorView SureView) → IsFree mon.0 monitors old.links → IsWelcomed run monitors mon after old new → IsAdmitted run mon after old new
admitted_free run monitors mon after old new free (inl (is, admitted)) = admitted
admitted_free run monitors mon after old new free (inr (not_free, away)) = absurd (not_free free)

-- the link has the version of its Hello
link_version : (run : ℕ) (guest : Guest) (link : LinkView SureView) → HasGreeted run guest.mon link → link.tells ≡ true → link.traffic.came ≡ spelling 1 (hello_of run guest) → IsSpelling 1 (hello_of run guest) (spelling 1 (hello_of run guest)) → link.version ≡ guest.version
link_version run guest link greeted tells came spelled =
    let parse = greeted.ends.came tells in
    let own : Frame = f.Hello run link.version guest.mon in
    let first : IsSpelling 1 own (spelling 1 own) = (let s = parse.each.0 in record { frame_is = s.frame_is; fits = s.fits; bytes_are = refl }) in
    let same : spelling 1 own ++ link.unread ≡ spelling 1 (hello_of run guest) ++ [] = ap (λ (xs : List ℕ). xs ++ link.unread) (sym (append-nil (spelling 1 own))) ∙ sym parse.parts ∙ came ∙ sym (append-nil (spelling 1 (hello_of run guest))) in
    let frames = (one_spelling 1 own (hello_of run guest) (spelling 1 own) (spelling 1 (hello_of run guest)) link.unread [] first spelled same).0 in
    (let e : link.version ≡ guest.version = cc in e)

-- the guest of a line
abbrev pub guest_of : Line → Guest
guest_of line = record { mon = record { 0 = line.port.monitor.setup.number }; version = line.port.link.version }

-- the new link is joined with the port's end of the line
joined_link : (line : Line) (v after : VisitorView SureView) (link : LinkView SureView) → IsOpening line → line.port.link.traffic.held ≡ [] → SaysHello 1 (guest_of line) v → Gathers v after → IsSure after.counts → after.bytes ≡ spelling 1 (hello_of 1 (guest_of line)) → after.traffic.waiting ≡ []
    → GoesOn after link → HasGreeted 1 (guest_of line).mon link → AreJoined line.port.link link line.up line.down
joined_link line v after link opening given says gathers sure bytes waiting goes greeted =
    let arrived = gathers.arrived says.tells in
    let tells : link.tells ≡ true = goes.tells ∙ gathers.tells ∙ says.tells in
    let piece : gathers.piece ≡ after.bytes = sym (gathers.bytes ∙ ap (λ (xs : List ℕ). xs ++ gathers.piece) says.bytes) in
    let came : link.traffic.came ≡ spelling 1 (hello_of 1 (guest_of line)) =
    ap (λ (t : Traffic). t.came) goes.traffic ∙ arrived.came ∙ ap₂ (λ (t : Traffic) (xs : List ℕ). t.came ++ xs) says.traffic (piece ∙ bytes) in
    let wait : link.traffic.waiting ≡ [] = ap (λ (t : Traffic). t.waiting) goes.traffic ∙ waiting in
    let went : link.traffic.went ≡ [] = ap (λ (t : Traffic). t.went) goes.traffic ∙ arrived.went ∙ ap (λ (t : Traffic). t.went) says.traffic in
    let held : link.traffic.held ≡ [] = ap (λ (t : Traffic). t.held) goes.traffic ∙ arrived.held ∙ ap (λ (t : Traffic). t.held) says.traffic in
    let room : link.traffic.room ≡ 4096 = ap (λ (t : Traffic). t.room) goes.traffic ∙ arrived.room ∙ ap (λ (t : Traffic). t.room) says.traffic in
    let hello : hello_in line.port ≡ spelling 1 (hello_of 1 (guest_of line)) = ap (λ (r : ℕ). spelling 1 (f.Hello r line.port.link.version (guest_of line).mon)) opening.run in
    record {
      version = link_version 1 (guest_of line) link greeted tells came says.spelled;
      tells_here = opening.tells;
      tells_there = tells;
      goes_up = record {
        bytes = opening.went ∙ hello ∙ sym came ∙ sym (append-nil link.traffic.came) ∙ sym (append-nil (link.traffic.came ++ [])) ∙ sym (append-nil (link.traffic.came ++ [] ++ []))
            ∙ ap₂ (λ (a b : List ℕ). link.traffic.came ++ a ++ b ++ []) (sym wait) (sym opening.up) ∙ ap (λ (a : List ℕ). link.traffic.came ++ link.traffic.waiting ++ line.up.bytes ++ a) (sym given);
      };
      goes_down = record {
        bytes = went ∙ ap₂ (λ (a b : List ℕ). a ++ b ++ [] ++ []) (sym opening.came) (sym opening.waiting) ∙ ap₂ (λ (a b : List ℕ). line.port.link.traffic.came ++ line.port.link.traffic.waiting ++ a ++ b) (sym opening.down) (sym held);
      };
      sure_here = opening.sure;
      sure_there = subst IsSure (sym goes.counts) sure;
      room_here = opening.room;
      room_there = omega (arith, room);
      room_up = opening.room_up;
      room_down = opening.room_down;
    }

-- ---- all of it

-- a hub over which the Hello of a line came, where nobody else was held
pub record Admits (line : Line) (old new : HubView SureView) : Type 0 where
  pub line_is : IsLine line.port.monitor.setup.number new line
  pub seats : SeatsOne line.port.monitor.setup.number old new

-- the connection that is held once a wire was admitted
abbrev pub visitor_of : SureView → VisitorView SureView
visitor_of wire = record { wire = wire; tells = true; traffic = wire.traffic; counts = counts_sure wire; bytes = []; front = None }

says_on : (line : Line) (wire : SureView) → IsOpening line → wire.traffic ≡ waiting_on 4096 (hello_in line.port) → SaysHello 1 (guest_of line) (visitor_of wire)
says_on line wire opening waits =
    let hello : f.Hello line.port.run line.port.link.version (guest_of line).mon ≡ hello_of 1 (guest_of line) = ap (λ (r : ℕ). f.Hello r line.port.link.version (guest_of line).mon) opening.run in
    record {
      tells = refl;
      bytes = refl;
      sure = record { faults = refl; ends = refl };
      spelled = subst (λ (fr : Frame). IsSpelling 1 fr (spelling 1 fr)) hello opening.hello;
      traffic = waits ∙ ap (λ (fr : Frame). waiting_on 4096 (spelling 1 fr)) hello;
    }

one_held : (held new : Slab (VisitorView SureView)) (v : VisitorView SureView) → IsNobody held → Updates held new held.vacant_key (Some v) → IsOne held.vacant_key v new
one_held held new v none updates = record { here = updates.changed; others = λ other apart. updates.others other apart ∙ none other }

nobody_again : (key : ℕ) (old new : Slab (VisitorView SureView)) (v : VisitorView SureView) → IsOne key v old → Updates old new key None → IsNobody new
nobody_again key old new v one updates = λ other. elim (cases_eq other key) [
  | inl is ↦ ap (get new) is ∙ updates.changed
  | inr apart ↦ updates.others other apart ∙ one.others other apart
]

pub admits_line : (line : Line) (wire : SureView) (old mid new : HubView SureView) (result : Result (Unit {0}) NoMemory) → IsOpening line → line.port.link.traffic.held ≡ [] → wire.traffic ≡ waiting_on 4096 (hello_in line.port) → CanJoin line.port.monitor.setup.number old
    → Updates old.held mid.held old.held.vacant_key (Some (visitor_of wire)) → mid ≡ record old { held = mid.held } → IsOk result → GreetsHeld counts_sure mid.run (monitors_of (seats_of mid)) result (door_of mid) (door_of new) → new ≡ with_door (door_of new) mid → IsHub new
    → Admits line old new
admits_line line wire old mid new result opening given waits can holds admitted ok greets rest kept =
    let mon = line.port.monitor.setup.number in
    let key = old.held.vacant_key in
    let v = visitor_of wire in
    let guest = guest_of line in
    let says = says_on line wire opening waits in
    let one : IsOne key v mid.held = one_held old.held mid.held v can.nobody holds in
    let run : mid.run ≡ 1 = ap (λ (h : HubView SureView). h.run) admitted ∙ can.run in
    let monitors = monitors_of (seats_of mid) in
    let o = greeted_one 1 monitors key result v (door_of mid) (door_of new) ok one (subst (λ (r : ℕ). GreetsHeld counts_sure r monitors result (door_of mid) (door_of new)) run greets) in
    let h = heard 1 monitors key guest v (door_of mid) (door_of new) says o in
    let coordinator : mid.coordinator ≡ old.coordinator = ap (λ (x : HubView SureView). x.coordinator) admitted in
    let free : IsFree mon monitors mid.links = subst (λ (x : HubView SureView). IsFree mon x.coordinator.settings.monitors x.links) (sym admitted) can.free in
    let a = admitted_free 1 monitors guest.mon o.after (door_of mid) (door_of new) free h.answered.1 in
    let joined = joined_link line v o.after a.link opening given says h.gathers h.sure h.bytes h.waiting a.goes_on a.greeted in
    let links : new.links ≡ set old.links (mon - 1) (Some a.link) = a.links ∙ ap (λ (x : HubView SureView). set x.links (mon - 1) (Some a.link)) admitted in
    let inside : mon - 1 < length old.links = (let c = can.hub_is.seats.count in let s = can.free.some in let w = can.free.within in omega (arith, c, s, w)) in
    let settings : new.coordinator.settings ≡ old.coordinator.settings = ap (λ (x : HubView SureView). x.coordinator.settings) rest ∙ ap (λ (x : HubView SureView). x.coordinator.settings) admitted in
    record {
      line_is = record {
        monitor = record { from_one = can.free.some; within = (let w = can.free.within in let e = ap (λ s. s.monitors) settings in omega (arith, w, e)) };
        hub_is = kept;
        going = ap (λ (x : HubView SureView). x.course) rest ∙ ap (λ (x : HubView SureView). x.course) admitted ∙ can.going;
        port_is = opening.port_is;
        open_port = opening.open_port;
        number = refl;
        run = opening.run ∙ sym (ap (λ (x : HubView SureView). x.run) rest ∙ run);
        link = a.link;
        at = ap (λ (ls : List (Option (LinkView SureView))). link_at ls (mon - 1)) links ∙ get_or-set_same old.links (mon - 1) (Some a.link) None inside;
        joined = joined;
      };
      seats = record {
        nobody = nobody_again key mid.held new.held v one h.answered.0.updates;
        rest = rest ∙ ap (λ (x : HubView SureView). with_door (door_of new) x) admitted;
        others = λ place apart. ap (λ (ls : List (Option (LinkView SureView))). link_at ls place) links ∙ get_or-set_other old.links (mon - 1) place (Some a.link) None apart;
      };
    }

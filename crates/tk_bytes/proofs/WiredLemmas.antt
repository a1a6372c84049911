-- What a step of a node leaves of the lines.
use Rattle.tk_journal.specs.declared.noted.Noted.TheVariants as n
use Rattle.std.proofs.Common.{◌≡◌, ◌≤◌, ◌<◌, ◌==◌, ℕ, ◌+◌, ◌-◌, List, [], ◌∷◌, ◌++◌, length, length-append, map, set, get_or, None, refl, ap, ap₂, sym, ◌∙◌, arith, subst, inl, inr}
use Rattle.std.specs.Prelude.{pos, slice_get, Result, Ok, Err, IfErr, OnOk}
use Rattle.std.proofs.lemmas.Bool.{cases_eq, ne_eqb}
use Rattle.std.proofs.lemmas.List.{append-nil, get_or-map, get_or-set_other, get_or-set_same, length-map, length-set, map-set, set-get_or}
use Rattle.tk_base.specs.Settings.{Setup}
use Rattle.tk_base.specs.declared.ids.Feeder.{Feeder}
use Rattle.tk_base.specs.declared.ids.Mon.{Mon}
use Rattle.tk_coord.specs.Coordinator.{CoordinatorView}
use Rattle.tk_frames.specs.declared.frame.Frame.{Frame}
use Rattle.tk_journal.specs.Laws.{IsMonitor}
use Rattle.tk_journal.specs.Legal.{turn_of}
use Rattle.tk_journal.specs.Links.{frames_from, frames_to}
use Rattle.tk_journal.specs.Refusal.{refusal_of, retune_refusal_of}
use Rattle.tk_journal.specs.declared.noted.Noted.{Noted}
use Rattle.tk_journal.specs.declared.refusal.RetuneRefusal.{RetuneRefusal}
use Rattle.tk_monitor.specs.Monitored.{MonitorView, Raises}
use Rattle.tk_trail.specs.Readings.{sent_by, taken_by}
use Rattle.tk_trail.specs.Setup.{MonitorSetup}
use Rattle.tk_wire.specs.SureWire.{SureView}
use Rattle.tk_end.specs.Link.{LinkView}
use Rattle.tk_port.specs.Port.{IsPort, PortView}
use Rattle.tk_port.proofs.SideLemmas.{taken_after}
use Rattle.tk_hub.proofs.DeskLemmas.{heard_after}
use Rattle.tk_journal.proofs.HeardLemmas.{no_input}
use Rattle.tk_journal.proofs.Appends.{frames_from-append}
use Rattle.tk_journal.proofs.WholeLemmas.{turn_is}
use Rattle.tk_monitor.specs.declared.outcome.Raised.{Raised}
use Rattle.tk_monitor.specs.declared.outcome.Raised.TheVariants.{Done, Ended}
use Rattle.tk_trail.specs.Frames.{due_at}
use Rattle.tk_trail.proofs.ReadingsLemmas.{taken_by-raised, answer_taken}
use Rattle.tk_monitor.specs.Stepped.{checking, taking}
use Rattle.tk_bytes.specs.Way.{AreJoined}
use Rattle.tk_hub.specs.Desk.{getting}
use Rattle.tk_hub.specs.Hub.{HubView, IsHub}
use Rattle.tk_hub.specs.Seats.{link_at}
use Rattle.tk_world.specs.Nodes.{AtSeat, CanGoDown, CanGoUp, GoesDown, GoesUp, HasSeat, RaisesAt, with_input, with_seat}
use Rattle.tk_world.specs.declared.seat.Seat.{Seat}
use Rattle.tk_world.proofs.RestLemmas.{not_passed}
use Rattle.tk_bytes.specs.Line.{ComesDown, ComesUp, IsLine, KeepsOthers}
use Rattle.tk_bytes.specs.Wired.{AreWired, IsWalked, seat_of, seen_of}
use Rattle.tk_bytes.specs.declared.line.Line.{Line}
use Rattle.tk_bytes.specs.declared.walked.Walked.{Walked}

-- ---- the line of a monitor

pub inside : (hub : HubView SureView) (lines : List Walked) (mon : ℕ) → HasSeat (seen_of hub lines) mon → mon - 1 < length lines
inside hub lines mon has = let a = has.monitor.from_one in let b = has.seated in let e = length-map lines seat_of in omega (arith, a, b, e)

pub seat_there : (hub : HubView SureView) (lines : List Walked) (mon : ℕ) (w : Walked) (d : Seat) → HasSeat (seen_of hub lines) mon → w ≡ get_or lines (mon - 1) w → get_or (seen_of hub lines).seats (mon - 1) d ≡ seat_of w
seat_there hub lines mon w d has at = get_or-map seat_of lines (mon - 1) w d (inside hub lines mon has) ∙ ap seat_of (sym at)

pub at_walked : (hub : HubView SureView) (lines : List Walked) (mon : ℕ) (P : Seat → Type 0) (w : Walked) → HasSeat (seen_of hub lines) mon → w ≡ get_or lines (mon - 1) w → P (seat_of w) → AtSeat (seen_of hub lines) mon P
at_walked hub lines mon P w has at p = λ d. subst P (sym (seat_there hub lines mon w d has at)) p

pub of_walked : (hub : HubView SureView) (lines : List Walked) (mon : ℕ) (P : Seat → Type 0) (w : Walked) → HasSeat (seen_of hub lines) mon → w ≡ get_or lines (mon - 1) w → AtSeat (seen_of hub lines) mon P → P (seat_of w)
of_walked hub lines mon P w has at each = subst P (seat_there hub lines mon w (seat_of w) has at) (each (seat_of w))

pub walked_at : (hub : HubView SureView) (lines : List Walked) (mon : ℕ) (w : Walked) → AreWired hub lines → HasSeat (seen_of hub lines) mon → w ≡ get_or lines (mon - 1) w → IsWalked mon hub w
walked_at hub lines mon w h has at =
    let again : mon - 1 + 1 ≡ mon = (let a = has.monitor.from_one in omega (arith, a)) in
    subst (λ (k : ℕ). IsWalked k hub w) again (subst (λ (z : Walked). IsWalked (mon - 1 + 1) hub z) (sym at) (h.each (mon - 1) w (inside hub lines mon has)))

pub seen_set : (hub hub' : HubView SureView) (lines : List Walked) (mon : ℕ) (w : Walked) → seen_of hub' (set lines (mon - 1) w) ≡ record { coordinator = hub'.coordinator; seats = set (seen_of hub lines).seats (mon - 1) (seat_of w) }
seen_set hub hub' lines mon w = ap (λ (xs : List Seat). record { coordinator = hub'.coordinator; seats = xs }) (map-set seat_of lines (mon - 1) w)

-- ---- all lines, once one has moved

pub set_wired : (mon : ℕ) (hub hub' : HubView SureView) (lines : List Walked) (w : Walked) → AreWired hub lines → IsMonitor hub.coordinator.settings mon → hub'.coordinator.settings ≡ hub.coordinator.settings → IsWalked mon hub' w
    → ((q : ℕ) (z : Walked) → (q ≡ mon → ⊥) → 1 ≤ q → IsWalked q hub z → IsWalked q hub' z) → AreWired hub' (set lines (mon - 1) w)
set_wired mon hub hub' lines w h m settings here others = record {
  going = here.line.going;
  count = length-set lines (mon - 1) w ∙ h.count ∙ sym (ap (λ (s : Setup). s.monitors) settings);
  each = λ k d below.
      let within : k < length lines = (let e = length-set lines (mon - 1) w in omega (arith, below, e)) in
      elim (cases_eq k (mon - 1)) [
        | inl same ↦
            let number : mon ≡ k + 1 = (let a = m.from_one in omega (arith, a, same)) in
            let own : get_or (set lines (mon - 1) w) k d ≡ w = ap (λ i. get_or (set lines (mon - 1) w) i d) same ∙ get_or-set_same lines (mon - 1) w d (omega (arith, same, within)) in
            subst (λ (z : Walked). IsWalked (k + 1) hub' z) (sym own) (subst (λ q. IsWalked q hub' w) number here)
        | inr apart ↦
            let other : get_or (set lines (mon - 1) w) k d ≡ get_or lines k d = get_or-set_other lines (mon - 1) k w d apart in
            subst (λ (z : Walked). IsWalked (k + 1) hub' z) (sym other) (others (k + 1) (get_or lines k d) (λ same. apart (omega (arith, same))) (omega arith) (h.each k d within))
      ];
}

-- another line, where the hub moved for one
pub other_line : (mon q : ℕ) (hub hub' : HubView SureView) (line : Line) → (q ≡ mon → ⊥) → 1 ≤ mon → 1 ≤ q → KeepsOthers mon hub hub' → IsHub hub' → hub'.course ≡ hub.course → hub'.coordinator.settings ≡ hub.coordinator.settings → IsLine q hub line → IsLine q hub' line
other_line mon q hub hub' line apart some one rest kept course settings l = record {
  monitor = subst (λ (s : Setup). IsMonitor s q) (sym settings) l.monitor;
  hub_is = kept;
  going = course ∙ l.going;
  port_is = l.port_is;
  open_port = l.open_port;
  number = l.number;
  run = l.run ∙ sym rest.run;
  link = l.link;
  at = rest.others (q - 1) (λ same. apart (omega (arith, same, some, one))) ∙ l.at;
  joined = l.joined;
}

pub other_walked : (mon q : ℕ) (hub hub' : HubView SureView) (z : Walked) → (q ≡ mon → ⊥) → 1 ≤ mon → 1 ≤ q → KeepsOthers mon hub hub' → IsHub hub' → hub'.course ≡ hub.course → hub'.coordinator.settings ≡ hub.coordinator.settings
    → frames_from q hub'.coordinator.journal ≡ frames_from q hub.coordinator.journal → IsWalked q hub z → IsWalked q hub' z
other_walked mon q hub hub' z apart some one rest kept course settings froms w = record {
  line = other_line mon q hub hub' z.line apart some one rest kept course settings w.line;
  taken = w.taken;
  got = w.got ∙ ap (λ (fs : List Frame). length fs) (sym froms);
}

-- ---- what happens at a port alone

pub record StaysOn (old new : PortView SureView) : Type 0 where
  pub kept : IsPort new
  pub rest : new ≡ record old { monitor = new.monitor }
  pub setup : new.monitor.setup ≡ old.monitor.setup
  pub taken : taken_by new.monitor.trail ≡ taken_by old.monitor.trail

port_walked : (mon : ℕ) (hub : HubView SureView) (w : Walked) (port : PortView SureView) → IsWalked mon hub w → StaysOn w.line.port port → IsWalked mon hub (record w { line = record { port = port; up = w.line.up; down = w.line.down } })
port_walked mon hub w port h s =
    let l = h.line in
    record {
      line = record {
        monitor = l.monitor;
        hub_is = l.hub_is;
        going = l.going;
        port_is = s.kept;
        open_port = ap (λ (p : PortView SureView). p.course) s.rest ∙ l.open_port;
        number = ap (λ (x : MonitorSetup). x.number) s.setup ∙ l.number;
        run = ap (λ (p : PortView SureView). p.run) s.rest ∙ l.run;
        link = l.link;
        at = l.at;
        joined = subst (λ (x : LinkView SureView). AreJoined x l.link w.line.up w.line.down) (sym (ap (λ (p : PortView SureView). p.link) s.rest)) l.joined;
      };
      taken = h.taken ∙ ap (λ (fs : List Frame). length fs) (sym s.taken);
      got = h.got;
    }

pub port_wired : (mon : ℕ) (hub : HubView SureView) (lines : List Walked) (w : Walked) (port : PortView SureView) → AreWired hub lines → HasSeat (seen_of hub lines) mon → w ≡ get_or lines (mon - 1) w → StaysOn w.line.port port
    → AreWired hub (set lines (mon - 1) (record w { line = record { port = port; up = w.line.up; down = w.line.down } }))
port_wired mon hub lines w port h has at stays =
    set_wired mon hub hub lines (record w { line = record { port = port; up = w.line.up; down = w.line.down } }) h has.monitor refl (port_walked mon hub w port (walked_at hub lines mon w h has at) stays) (λ q z apart one was. was)

pub raised_on : (port new : PortView SureView) (feeder : Feeder) (raised : Raised) → Raises port.monitor feeder raised new.monitor → new ≡ record port { monitor = new.monitor } → IsPort new → StaysOn port new
raised_on port new feeder (Done broken) raises rest kept = record {
  kept = kept;
  rest = rest;
  setup = ap (λ (m : MonitorView). m.setup) raises.1;
  taken = ap (λ (m : MonitorView). taken_by m.trail) raises.1 ∙ taken_by-raised port.monitor.trail feeder;
}
raised_on port new feeder Ended raises rest kept = record { kept = kept; rest = rest; setup = ap (λ (m : MonitorView). m.setup) raises.1; taken = ap (λ (m : MonitorView). taken_by m.trail) raises.1 }

pub checked_on : (port new : PortView SureView) → new ≡ record port { monitor = checking port.monitor } → IsPort new → StaysOn port new
checked_on port new is kept = record {
  kept = kept;
  rest = is ∙ ap (λ (m : MonitorView). record port { monitor = m }) (sym (ap (λ (p : PortView SureView). p.monitor) is));
  setup = ap (λ (p : PortView SureView). p.monitor.setup) is;
  taken = ap (λ (p : PortView SureView). taken_by p.monitor.trail) is ∙ answer_taken port.monitor.trail (due_at port.monitor.setup port.monitor.trail);
}

pub same_on : (port new : PortView SureView) → new ≡ port → IsPort new → StaysOn port new
same_on port new is kept = record { kept = kept; rest = is ∙ ap (λ (m : MonitorView). record port { monitor = m }) (sym (ap (λ (p : PortView SureView). p.monitor) is)); setup = ap (λ (p : PortView SureView). p.monitor.setup) is; taken = ap (λ (p : PortView SureView). taken_by p.monitor.trail) is }

-- ---- what a world sees of it

unchanged_line : (lines : List Walked) (i : ℕ) (w : Walked) → w ≡ get_or lines i w → set lines i w ≡ lines
unchanged_line lines i w at = ap (set lines i) at ∙ set-get_or lines i w

pub raised_at : (mon : ℕ) (hub : HubView SureView) (lines : List Walked) (w : Walked) (port : PortView SureView) (feeder : Feeder) (raised : Raised) → HasSeat (seen_of hub lines) mon → w ≡ get_or lines (mon - 1) w → Raises w.line.port.monitor feeder raised port.monitor
    → AtSeat (seen_of hub lines) mon (RaisesAt mon feeder raised (seen_of hub lines) (seen_of hub (set lines (mon - 1) (record w { line = record { port = port; up = w.line.up; down = w.line.down } }))))
raised_at mon hub lines w port feeder raised has at raises =
    at_walked hub lines mon (RaisesAt mon feeder raised (seen_of hub lines) (seen_of hub (set lines (mon - 1) (record w { line = record { port = port; up = w.line.up; down = w.line.down } })))) w has at
    (record { monitor = port.monitor; answer = raises; is = seen_set hub hub lines mon (record w { line = record { port = port; up = w.line.up; down = w.line.down } }) })

pub checked_seen : (mon : ℕ) (hub : HubView SureView) (lines : List Walked) (w : Walked) (port : PortView SureView) → HasSeat (seen_of hub lines) mon → w ≡ get_or lines (mon - 1) w → port ≡ record w.line.port { monitor = checking w.line.port.monitor }
    → AtSeat (seen_of hub lines) mon (λ seat. seen_of hub (set lines (mon - 1) (record w { line = record { port = port; up = w.line.up; down = w.line.down } })) ≡ with_seat (seen_of hub lines) mon (record seat { monitor = checking seat.monitor }))
checked_seen mon hub lines w port has at is =
    let w' : Walked = record w { line = record { port = port; up = w.line.up; down = w.line.down } } in
    at_walked hub lines mon (λ seat. seen_of hub (set lines (mon - 1) w') ≡ with_seat (seen_of hub lines) mon (record seat { monitor = checking seat.monitor })) w has at
    (seen_set hub hub lines mon w' ∙ ap (λ (p : PortView SureView). with_seat (seen_of hub lines) mon (record { monitor = p.monitor; taken = w.taken; got = w.got })) is)

pub same_seen : (mon : ℕ) (hub : HubView SureView) (lines : List Walked) (w : Walked) (port : PortView SureView) → w ≡ get_or lines (mon - 1) w → port ≡ w.line.port → seen_of hub (set lines (mon - 1) (record w { line = record { port = port; up = w.line.up; down = w.line.down } })) ≡ seen_of hub lines
same_seen mon hub lines w port at is =
    ap (λ (p : PortView SureView). seen_of hub (set lines (mon - 1) (record w { line = record { port = p; up = w.line.up; down = w.line.down } }))) is
    ∙ ap (λ (ls : List Walked). seen_of hub ls) (unchanged_line lines (mon - 1) w at)

-- ---- a frame that goes up

pub comes_up : (mon : ℕ) (hub : HubView SureView) (lines : List Walked) (w : Walked) → IsWalked mon hub w → (g : CanGoUp (seen_of hub lines) mon (seat_of w)) → ComesUp mon hub.coordinator w.line.port.monitor g.frame
comes_up mon hub lines w h g = record { next = ap (slice_get (sent_by w.line.port.monitor.trail)) (sym h.got) ∙ g.next; accepted = g.accepted }

froms_other : (s : Setup) (j : List Noted) (mon q : ℕ) (frame : Frame) → (q ≡ mon → ⊥) → 0 < mon → mon ≤ s.monitors → refusal_of s j mon frame ≡ None → frames_from q (j ++ turn_of s j (n.Got (record { 0 = mon }) frame)) ≡ frames_from q j
froms_other s j mon q frame apart some within none =
    let t = turn_is s j (n.Got (record { 0 = mon }) frame) (omega (arith, some), within, none) in
    frames_from-append q j (turn_of s j (n.Got (record { 0 = mon }) frame))
    ∙ ap (λ (fs : List Frame). frames_from q j ++ fs) (ap (frames_from q) t.is ∙ not_passed (mon == q) frame (frames_from q t.rest) (ne_eqb mon q (λ same. apart (sym same))) ∙ no_input q t.rest t.none)
    ∙ append-nil (frames_from q j)

pub up_walked : (mon : ℕ) (hub hub' : HubView SureView) (w : Walked) (line : Line) (frame : Frame) → IsWalked mon hub w → IsLine mon hub' line → line.port.monitor ≡ w.line.port.monitor → refusal_of hub.coordinator.settings hub.coordinator.journal mon frame ≡ None
    → hub'.coordinator ≡ getting hub.coordinator mon frame → IsWalked mon hub' (record { line = line; taken = w.taken; got = w.got + 1 })
up_walked mon hub hub' w line frame h l same accepted taken = record {
  line = l;
  taken = h.taken ∙ ap (λ (m : MonitorView). length (taken_by m.trail)) (sym same);
  got =
      let now : frames_from mon hub'.coordinator.journal ≡ frames_from mon hub.coordinator.journal ++ frame ∷ [] = ap (λ (c : CoordinatorView). frames_from mon c.journal) taken
      ∙ heard_after hub.coordinator.settings hub.coordinator.journal mon frame (let a = h.line.monitor.from_one in omega (arith, a)) h.line.monitor.within accepted in
      let size = ap (λ (fs : List Frame). length fs) now in
      let parts = length-append (frames_from mon hub.coordinator.journal) (frame ∷ []) in
      let g = h.got in
      omega (arith, size, parts, g);
}

pub up_wired : (mon : ℕ) (hub hub' : HubView SureView) (lines : List Walked) (w : Walked) (line : Line) (frame : Frame) → AreWired hub lines → HasSeat (seen_of hub lines) mon → w ≡ get_or lines (mon - 1) w → IsLine mon hub' line → line.port.monitor ≡ w.line.port.monitor → KeepsOthers mon hub hub'
    → refusal_of hub.coordinator.settings hub.coordinator.journal mon frame ≡ None → hub'.coordinator ≡ getting hub.coordinator mon frame → AreWired hub' (set lines (mon - 1) (record { line = line; taken = w.taken; got = w.got + 1 }))
up_wired mon hub hub' lines w line frame h has at l same rest accepted taken =
    let here = walked_at hub lines mon w h has at in
    let settings : hub'.coordinator.settings ≡ hub.coordinator.settings = ap (λ (c : CoordinatorView). c.settings) taken in
    set_wired mon hub hub' lines (record { line = line; taken = w.taken; got = w.got + 1 }) h has.monitor settings (up_walked mon hub hub' w line frame here l same accepted taken)
    (λ q z apart one was. other_walked mon q hub hub' z apart has.monitor.from_one one rest l.hub_is (l.going ∙ sym here.line.going) settings
    (ap (λ (c : CoordinatorView). frames_from q c.journal) taken ∙ froms_other hub.coordinator.settings hub.coordinator.journal mon q frame apart (let a = has.monitor.from_one in omega (arith, a)) has.monitor.within accepted) was)

-- want of memory on the way
pub stays_wired : (mon : ℕ) (hub hub' : HubView SureView) (lines : List Walked) (w : Walked) (line : Line) → AreWired hub lines → HasSeat (seen_of hub lines) mon → w ≡ get_or lines (mon - 1) w → IsLine mon hub' line → line.port.monitor ≡ w.line.port.monitor → KeepsOthers mon hub hub'
    → hub'.coordinator ≡ hub.coordinator → AreWired hub' (set lines (mon - 1) (record { line = line; taken = w.taken; got = w.got }))
stays_wired mon hub hub' lines w line h has at l same rest kept =
    let here = walked_at hub lines mon w h has at in
    let settings : hub'.coordinator.settings ≡ hub.coordinator.settings = ap (λ (c : CoordinatorView). c.settings) kept in
    set_wired mon hub hub' lines (record { line = line; taken = w.taken; got = w.got }) h has.monitor settings (record {
      line = l;
      taken = here.taken ∙ ap (λ (m : MonitorView). length (taken_by m.trail)) (sym same);
      got = here.got ∙ ap (λ (c : CoordinatorView). length (frames_from mon c.journal)) (sym kept);
    })
    (λ q z apart one was. other_walked mon q hub hub' z apart has.monitor.from_one one rest l.hub_is (l.going ∙ sym here.line.going) settings (ap (λ (c : CoordinatorView). frames_from q c.journal) kept) was)

-- ---- a frame that goes down

pub down_wired : (mon : ℕ) (hub hub' : HubView SureView) (lines : List Walked) (w : Walked) (line : Line) (frame : Frame) → AreWired hub lines → HasSeat (seen_of hub lines) mon → w ≡ get_or lines (mon - 1) w → IsLine mon hub' line → KeepsOthers mon hub hub'
    → hub'.coordinator ≡ hub.coordinator → line.port.monitor ≡ taking w.line.port.monitor frame → AreWired hub' (set lines (mon - 1) (record { line = line; taken = w.taken + 1; got = w.got }))
down_wired mon hub hub' lines w line frame h has at l rest kept taken =
    let here = walked_at hub lines mon w h has at in
    let settings : hub'.coordinator.settings ≡ hub.coordinator.settings = ap (λ (c : CoordinatorView). c.settings) kept in
    set_wired mon hub hub' lines (record { line = line; taken = w.taken + 1; got = w.got }) h has.monitor settings (record {
      line = l;
      taken =
          let m = w.line.port.monitor in
          let size : length (taken_by line.port.monitor.trail) ≡ length (taken_by m.trail ++ frame ∷ []) = ap (λ (x : MonitorView). length (taken_by x.trail)) taken ∙ ap (λ (fs : List Frame). length fs) (taken_after m.setup m.trail frame) in
          let parts = length-append (taken_by m.trail) (frame ∷ []) in
          let t = here.taken in
          omega (arith, size, parts, t);
      got = here.got ∙ ap (λ (c : CoordinatorView). length (frames_from mon c.journal)) (sym kept);
    })
    (λ q z apart one was. other_walked mon q hub hub' z apart has.monitor.from_one one rest l.hub_is (l.going ∙ sym here.line.going) settings (ap (λ (c : CoordinatorView). frames_from q c.journal) kept) was)

pub comes_to : (mon : ℕ) (hub : HubView SureView) (lines : List Walked) (w : Walked) → IsWalked mon hub w → (g : CanGoDown (seen_of hub lines) mon (seat_of w)) → ComesDown mon hub.coordinator w.line.port.monitor g.frame
comes_to mon hub lines w h g = record { next = ap (slice_get (frames_to mon hub.coordinator.journal)) (sym h.taken) ∙ g.next; accepted = g.accepted }

-- ---- what a world sees once a frame went

seats_set : (hub hub' : HubView SureView) (lines : List Walked) (mon : ℕ) (w w' : Walked) (s : Seat) (c : CoordinatorView) → hub'.coordinator ≡ c → seat_of w' ≡ s → seen_of hub' (set lines (mon - 1) w') ≡ record { coordinator = c; seats = set (seen_of hub lines).seats (mon - 1) s }
seats_set hub hub' lines mon w w' s c same is =
    seen_set hub hub' lines mon w' ∙ ap₂ (λ (z : CoordinatorView) (x : Seat). record { coordinator = z; seats = set (seen_of hub lines).seats (mon - 1) x }) same is

pub stays_seen : (mon : ℕ) (hub hub' : HubView SureView) (lines : List Walked) (w : Walked) (line : Line) → w ≡ get_or lines (mon - 1) w → line.port.monitor ≡ w.line.port.monitor → hub'.coordinator ≡ hub.coordinator
    → seen_of hub' (set lines (mon - 1) (record { line = line; taken = w.taken; got = w.got })) ≡ seen_of hub lines
stays_seen mon hub hub' lines w line at same kept =
    seats_set hub hub' lines mon w (record { line = line; taken = w.taken; got = w.got }) (seat_of w) hub.coordinator kept (ap (λ (m : MonitorView). record { monitor = m; taken = w.taken; got = w.got }) same)
    ∙ sym (seen_set hub hub lines mon w) ∙ ap (λ (ls : List Walked). seen_of hub ls) (unchanged_line lines (mon - 1) w at)

pub up_seen : (mon : Mon) (hub hub' : HubView SureView) (lines : List Walked) (w : Walked) (line : Line) → HasSeat (seen_of hub lines) mon.0 → w ≡ get_or lines (mon.0 - 1) w → (g : CanGoUp (seen_of hub lines) mon.0 (seat_of w)) → line.port.monitor ≡ w.line.port.monitor → hub'.coordinator ≡ getting hub.coordinator mon.0 g.frame
    → AtSeat (seen_of hub lines) mon.0 (GoesUp mon (seen_of hub lines) (seen_of hub' (set lines (mon.0 - 1) (record { line = line; taken = w.taken; got = w.got + 1 }))))
up_seen mon hub hub' lines w line has at g same taken =
    at_walked hub lines mon.0 (GoesUp mon (seen_of hub lines) (seen_of hub' (set lines (mon.0 - 1) (record { line = line; taken = w.taken; got = w.got + 1 })))) w has at
    (record {
      frame = g.frame;
      next = g.next;
      is = seats_set hub hub' lines mon.0 w (record { line = line; taken = w.taken; got = w.got + 1 }) (record { monitor = w.line.port.monitor; taken = w.taken; got = w.got + 1 }) (with_input hub.coordinator (n.Got mon g.frame)) taken
          (ap (λ (m : MonitorView). record { monitor = m; taken = w.taken; got = w.got + 1 }) same);
    })

pub down_seen : (mon : ℕ) (hub hub' : HubView SureView) (lines : List Walked) (w : Walked) (line : Line) → HasSeat (seen_of hub lines) mon → w ≡ get_or lines (mon - 1) w → (g : CanGoDown (seen_of hub lines) mon (seat_of w)) → line.port.monitor ≡ taking w.line.port.monitor g.frame → hub'.coordinator ≡ hub.coordinator
    → AtSeat (seen_of hub lines) mon (GoesDown mon (seen_of hub lines) (seen_of hub' (set lines (mon - 1) (record { line = line; taken = w.taken + 1; got = w.got }))))
down_seen mon hub hub' lines w line has at g taken kept =
    at_walked hub lines mon (GoesDown mon (seen_of hub lines) (seen_of hub' (set lines (mon - 1) (record { line = line; taken = w.taken + 1; got = w.got })))) w has at
    (record {
      frame = g.frame;
      next = g.next;
      is = seats_set hub hub' lines mon w (record { line = line; taken = w.taken + 1; got = w.got }) (record { monitor = taking w.line.port.monitor g.frame; taken = w.taken + 1; got = w.got }) hub.coordinator kept
          (ap (λ (m : MonitorView). record { monitor = m; taken = w.taken + 1; got = w.got }) taken);
    })

-- ---- a retune

pub retuned_wired : (hub hub' : HubView SureView) (lines : List Walked) (k epsilon : ℕ) → AreWired hub lines → IsHub hub' → hub' ≡ record hub { coordinator = hub'.coordinator } → hub'.coordinator.settings ≡ hub.coordinator.settings
    → retune_refusal_of hub.coordinator.settings hub.coordinator.journal k epsilon ≡ None → hub'.coordinator.journal ≡ hub.coordinator.journal ++ turn_of hub.coordinator.settings hub.coordinator.journal (n.Tuned k (pos epsilon)) → AreWired hub' lines
retuned_wired hub hub' lines k epsilon h kept rest settings none turn = record {
  going = ap (λ (x : HubView SureView). x.course) rest ∙ h.going;
  count = h.count ∙ sym (ap (λ (s : Setup). s.monitors) settings);
  each = λ i d below.
      let was = h.each i d below in
      let t = turn_is hub.coordinator.settings hub.coordinator.journal (n.Tuned k (pos epsilon)) (epsilon, refl, none) in
      let froms : frames_from (i + 1) hub'.coordinator.journal ≡ frames_from (i + 1) hub.coordinator.journal =
      ap (frames_from (i + 1)) turn
      ∙ frames_from-append (i + 1) hub.coordinator.journal (turn_of hub.coordinator.settings hub.coordinator.journal (n.Tuned k (pos epsilon)))
      ∙ ap (λ (fs : List Frame). frames_from (i + 1) hub.coordinator.journal ++ fs) (ap (frames_from (i + 1)) t.is ∙ no_input (i + 1) t.rest t.none)
      ∙ append-nil (frames_from (i + 1) hub.coordinator.journal) in
      let l = was.line in
      record {
        line = record {
          monitor = subst (λ (s : Setup). IsMonitor s (i + 1)) (sym settings) l.monitor;
          hub_is = kept;
          going = ap (λ (x : HubView SureView). x.course) rest ∙ l.going;
          port_is = l.port_is;
          open_port = l.open_port;
          number = l.number;
          run = l.run ∙ sym (ap (λ (x : HubView SureView). x.run) rest);
          link = l.link;
          at = ap (λ (x : HubView SureView). link_at x.links (i + 1 - 1)) rest ∙ l.at;
          joined = l.joined;
        };
        taken = was.taken;
        got = was.got ∙ ap (λ (fs : List Frame). length fs) (sym froms);
      };
}

pub monitors_again : (lines : List Walked) → map (λ (w : Walked). w.line.port.monitor) lines ≡ map (λ (seat : Seat). seat.monitor) (map seat_of lines)
monitors_again [] = refl
monitors_again (w ∷ lines) = ap (λ (ms : List MonitorView). w.line.port.monitor ∷ ms) (monitors_again lines)

pub retuned_by : (hub hub' : HubView SureView) (lines : List Walked) (k epsilon : ℕ) (result : Result (Unit {0}) RetuneRefusal) → AreWired hub lines → IsHub hub' → hub' ≡ record hub { coordinator = hub'.coordinator } → hub'.coordinator.settings ≡ hub.coordinator.settings
    → OnOk result (retune_refusal_of hub.coordinator.settings hub.coordinator.journal k epsilon ≡ None) → OnOk result (hub'.coordinator.journal ≡ hub.coordinator.journal ++ turn_of hub.coordinator.settings hub.coordinator.journal (n.Tuned k (pos epsilon)))
    → IfErr result (λ _. hub' ≡ hub) → AreWired hub' lines
retuned_by hub hub' lines k epsilon (Ok u) h kept rest settings none turn err = retuned_wired hub hub' lines k epsilon h kept rest settings none turn
retuned_by hub hub' lines k epsilon (Err e) h kept rest settings none turn err = subst (λ (x : HubView SureView). AreWired x lines) (sym err) h

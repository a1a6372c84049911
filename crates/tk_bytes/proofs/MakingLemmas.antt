-- The lines of all monitors, one after the other.
use Rattle.std.proofs.Common.{◌≡◌, ◌<◌, ℕ, suc, zero, ◌+◌, ◌-◌, ◌++◌, List, [], ◌∷◌, length, length-append, get_or, replicate, Option, None, refl, ap, sym, ◌∙◌, arith, subst, inl, inr}
use Rattle.std.proofs.lemmas.Bool.{cases_eq}
use Rattle.std.proofs.lemmas.List.{get_or_append_left, get_or_push}
use Rattle.slab.specs.Slab.{Slab}
use Rattle.tk_coord.specs.Coordinator.{CoordinatorView}
use Rattle.tk_frames.specs.declared.frame.Frame.{Frame}
use Rattle.tk_journal.specs.Links.{frames_from}
use Rattle.tk_journal.specs.Legal.{inputs_of}
use Rattle.tk_monitor.specs.Monitored.{MonitorView}
use Rattle.tk_trail.specs.Readings.{taken_by}
use Rattle.tk_trail.specs.declared.entry.Entry.{Entry}
use Rattle.tk_wire.specs.SureWire.{SureView}
use Rattle.tk_end.specs.Link.{LinkView}
use Rattle.tk_hub.specs.Hub.{HubView, IsHub}
use Rattle.tk_journal.proofs.HeardLemmas.{no_input}
use Rattle.tk_hub.specs.Seats.{link_at}
use Rattle.tk_hub.specs.Visitor.{VisitorView}
use Rattle.tk_hub.specs.declared.course.Course.TheVariants as cs
use Rattle.tk_world.specs.declared.seat.Seat.{Seat}
use Rattle.tk_bytes.specs.Greeting.{AreMade, CanJoin, IsNobody, SeatsOne}
use Rattle.tk_bytes.specs.Line.{IsLine, KeepsOthers}
use Rattle.tk_bytes.specs.Wired.{IsWalked}
use Rattle.tk_bytes.specs.declared.line.Line.{Line}
use Rattle.tk_bytes.specs.declared.walked.Walked.{Walked}
use Rattle.tk_bytes.proofs.WiredLemmas.{other_walked}

-- ---- none is made

nobody_new : (held : Slab (VisitorView SureView)) → held.slots ≡ [] → IsNobody held
nobody_new held none = λ key. ap (λ (slots : List (Option (VisitorView SureView))). get_or slots key None) none

free_seats : (n place : ℕ) → link_at {W = SureView} (replicate n None) place ≡ None
free_seats zero place = refl
free_seats (suc n) zero = refl
free_seats (suc n) (suc place) = free_seats n place

pub made_none : (hub : HubView SureView) (count : ℕ) → IsHub hub → hub.course ≡ cs.Open → hub.run ≡ 1 → hub.held.slots ≡ [] → hub.links ≡ replicate count None → AreMade 0 hub []
made_none hub count kept going run held links = record {
  hub_is = kept;
  going = going;
  run = run;
  nobody = nobody_new hub.held held;
  free = λ place from. ap (λ (ls : List (Option (LinkView SureView))). link_at ls place) links ∙ free_seats count place;
  size = refl;
  each = λ k d below. absurd (omega (arith, below));
}

-- ---- a new one

-- the line of a monitor that has begun, at a hub that has taken nothing
pub new_line_walked : (mon : ℕ) (hub new : HubView SureView) (line : Line) (seat : Seat) → IsLine seat.monitor.setup.number new line → line.port.monitor ≡ seat.monitor → SeatsOne seat.monitor.setup.number hub new → seat.monitor.setup.number ≡ mon → seat.monitor.trail ≡ [] → seat.taken ≡ 0 → seat.got ≡ 0
    → inputs_of hub.coordinator.journal ≡ [] → IsWalked mon new (record { line = line; taken = seat.taken; got = seat.got }) × SeatsOne mon hub new
new_line_walked mon hub new line seat l same seats number trail taken got none =
    let coordinator : new.coordinator ≡ hub.coordinator = ap (λ (h : HubView SureView). h.coordinator) seats.rest in
    let froms : frames_from mon new.coordinator.journal ≡ [] = ap (λ (c : CoordinatorView). frames_from mon c.journal) coordinator ∙ no_input mon hub.coordinator.journal none in
    let takes : taken_by line.port.monitor.trail ≡ [] = ap (λ (m : MonitorView). taken_by m.trail) same ∙ ap (λ (t : List Entry). taken_by t) trail in (
      record {
        line = subst (λ (n : ℕ). IsLine n new line) number l;
        taken = taken ∙ ap (λ (fs : List Frame). length fs) (sym takes);
        got = got ∙ ap (λ (fs : List Frame). length fs) (sym froms);
      },
      subst (λ (n : ℕ). SeatsOne n hub new) number seats,
    )

-- ---- one more

pub can_join : (count : ℕ) (hub : HubView SureView) (lines : List Walked) → AreMade count hub lines → count < hub.coordinator.settings.monitors → CanJoin (count + 1) hub
can_join count hub lines made below = record {
  hub_is = made.hub_is;
  going = made.going;
  run = made.run;
  nobody = made.nobody;
  free =
      let last : count + 1 - 1 ≡ count = omega arith in
      record {
        some = omega arith;
        within = omega (arith, below);
        free = ap (λ (k : ℕ). link_at hub.links k) last ∙ made.free count (omega arith);
      };
}

pub made_more : (count : ℕ) (hub new : HubView SureView) (lines : List Walked) (w : Walked) → AreMade count hub lines → IsWalked (count + 1) new w → SeatsOne (count + 1) hub new → AreMade (count + 1) new (lines ++ w ∷ [])
made_more count hub new lines w made walked seats =
    let run = ap (λ (h : HubView SureView). h.run) seats.rest in
    let coordinator : new.coordinator ≡ hub.coordinator = ap (λ (h : HubView SureView). h.coordinator) seats.rest in
    let others : KeepsOthers (count + 1) hub new = record { run = run; others = seats.others } in
    record {
      hub_is = walked.line.hub_is;
      going = walked.line.going;
      run = run ∙ made.run;
      nobody = seats.nobody;
      free = λ place from. seats.others place (λ same. absurd (omega (arith, from, same))) ∙ made.free place (omega (arith, from));
      size = (let l = length-append lines (w ∷ []) in omega (arith, l, made.size));
      each = λ k d below. elim (cases_eq k count) [
        | inl same ↦
            let at : get_or (lines ++ w ∷ []) k d ≡ w = get_or_push lines w d k (made.size ∙ sym same) in
            subst (λ (z : Walked). IsWalked (k + 1) new z) (sym at) (subst (λ (q : ℕ). IsWalked (q + 1) new w) (sym same) walked)
        | inr apart ↦
            let at : get_or (lines ++ w ∷ []) k d ≡ get_or lines k d = get_or_append_left lines (w ∷ []) d k (omega (arith, made.size, below, apart)) in
            subst (λ (z : Walked). IsWalked (k + 1) new z) (sym at)
            (other_walked (count + 1) (k + 1) hub new (get_or lines k d) (λ same. apart (omega (arith, same))) (omega arith) (omega arith) others walked.line.hub_is
            (ap (λ (h : HubView SureView). h.course) seats.rest) (ap (λ (c : CoordinatorView). c.settings) coordinator) (ap (λ (c : CoordinatorView). frames_from (k + 1) c.journal) coordinator)
            (made.each k d (omega (arith, below, apart))))
      ];
    }

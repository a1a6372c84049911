-- A record that is told, and a stream that is closed.
use Rattle.std.proofs.Common.{◌≡◌, ℕ, ◌+◌, ◌-◌, Bool, List, [], ◌∷◌, ◌++◌, length, inl, inr, Option, Some, None, refl, sym, ap, ap₂, ◌∙◌, subst, arith}
use Rattle.std.specs.Prelude.{ℤ, unsigned_abs}
use Rattle.std.proofs.lemmas.List.{length-set}
use Rattle.tk_base.specs.declared.ids.Feeder.{Feeder}
use Rattle.tk_input.specs.Logs.{IsObject}
use Rattle.tk_monitor.specs.Monitored.{IsFeederOf, MonitorView, Raises}
use Rattle.tk_monitor.specs.Stepped.{growing}
use Rattle.tk_monitor.specs.declared.outcome.Raised.TheVariants as o
use Rattle.tk_trail.specs.Legal.{HasNext}
use Rattle.tk_trail.specs.Readings.{is_broken}
use Rattle.tk_trail.specs.Setup.{IsSetup}
use Rattle.tk_trail.specs.declared.entry.Entry.TheVariants.{Raised}
use Rattle.tk_trail.specs.Growing.{grown}
use Rattle.tk_trail.proofs.GrowingLemmas.{grown_next, length-grown_parts}
use Rattle.tk_compact.specs.Room.{HasRoomFor, IsOpenAt, IsWeighed}
use Rattle.tk_compact.proofs.RoomLemmas.{grown_within}
use Rattle.tk_compact.proofs.ToldLemmas.{closed_once, told_once}
use Rattle.tk_port.specs.Port.{PortView}
use Rattle.tk_watch.specs.Standing.{StandingView, over, port_over}
use Rattle.tk_watch.specs.Told.{Closes, Counts, counted, told_of, with_monitor}
use Rattle.tk_watch.specs.Watch.{IsWatch, WatchView}

-- ---- where a monitor stands

port_over_over : {W : Type 0} (port : Option (PortView W)) (m n : MonitorView) → port_over (port_over port m) n ≡ port_over port n
port_over_over None m n = refl
port_over_over (Some p) m n = refl

-- ---- a record

-- what stands, and what may come
pub record IsReady {W : Type 0} (w : WatchView W) (f : Feeder) (c : ℕ × ℤ) : Type 0 where
  pub is : IsWatch w
  pub next : HasNext w.monitor.setup w.monitor.trail f.0
  pub object : IsObject w.monitor.setup.objects c.0
  pub room : HasRoomFor w.monitor.setup w.weight f.0 c

-- the same of what stands inside
pub ready : {W : Type 0} (inside now : WatchView W) (f : Feeder) (c : ℕ × ℤ) → inside ≡ now → IsWatch inside → HasNext now.monitor.setup now.monitor.trail f.0 → IsObject now.monitor.setup.objects c.0 → HasRoomFor now.monitor.setup now.weight f.0 c → IsReady inside f c
ready inside now f c same is next object room = record {
  is = is;
  next = subst (λ (v : WatchView _). HasNext v.monitor.setup v.monitor.trail f.0) (sym same) next;
  object = subst (λ (v : WatchView _). IsObject v.monitor.setup.objects c.0) (sym same) object;
  room = subst (λ (v : WatchView _). HasRoomFor v.monitor.setup v.weight f.0 c) (sym same) room;
}

pub ready_limits : {W : Type 0} (w : WatchView W) (f : Feeder) (c : ℕ × ℤ) → IsReady w f c → IsSetup (grown w.monitor.setup f.0 c) × IsWeighed (grown w.monitor.setup f.0 c) (w.weight + unsigned_abs c.1)
ready_limits w f c r = grown_within w.monitor.setup w.monitor.trail w.weight f.0 c r.is.within r.is.weighs r.next r.object r.room

-- the part goes on, so a raise is no end of it
pub never_ended : {W : Type 0} (w : WatchView W) (f : Feeder) (c : ℕ × ℤ) (grew after : MonitorView) → IsReady w f c → grew ≡ growing w.monitor f.0 c → Raises grew f o.Ended after → ⊥
never_ended w f c grew after r is ended =
    let goes : HasNext grew.setup grew.trail f.0 = subst (λ (m : MonitorView). HasNext m.setup m.trail f.0) (sym is) (grown_next w.monitor.setup w.monitor.trail f.0 c r.next) in
    let at = ended.0 in
    let more = goes.not_ended in
    omega (arith, at, more)

pub stays_feeder : {W : Type 0} (w : WatchView W) (f : Feeder) (c : ℕ × ℤ) (grew : MonitorView) → IsReady w f c → grew ≡ growing w.monitor f.0 c → IsFeederOf grew.setup f.0
stays_feeder w f c grew r is = record {
  from_one = r.next.from_one;
  within = omega (arith, r.next.one_of, length-grown_parts w.monitor.setup.parts f.0 c, ap (λ (m : MonitorView). length m.setup.parts) is);
}

pub told_is : {W : Type 0} (w : WatchView W) (f : Feeder) (c : ℕ × ℤ) (grew after : MonitorView) (broken : Bool) → grew ≡ growing w.monitor f.0 c → Raises grew f (o.Done broken) after → after ≡ told_of w.monitor f c
told_is w f c grew after broken is raised = raised.1 ∙ ap (λ (m : MonitorView). record m { trail = m.trail ++ Raised f ∷ [] }) is

length-counted : (counts : List ℕ) (g : ℕ) → length (counted counts g) ≡ length counts
length-counted counts g = length-set counts (g - 1) _

-- the watch then
abbrev pub after_told : {W : Type 0} → WatchView W → Feeder → ℕ × ℤ → WatchView W
after_told w f c = record (with_monitor w (told_of w.monitor f c)) { weight = w.weight + unsigned_abs c.1; counts = counted w.counts f.0 }

pub told_keeps : {W : Type 0} (w : WatchView W) (f : Feeder) (c : ℕ × ℤ) → IsReady w f c → IsWatch (after_told w f c)
told_keeps w f c r =
    let limits = ready_limits w f c r in
    let once = told_once w.monitor.setup w.monitor.trail f c r.is.within r.is.legal r.is.waits r.next in
    record {
      within = limits.0;
      legal = once.0;
      waits = once.1.0;
      weighs = limits.1;
      number = r.is.number;
      counts = length-counted w.counts f.0 ∙ r.is.counts ∙ sym (length-grown_parts w.monitor.setup.parts f.0 c);
      version = r.is.version;
    }

pub told_counts : {W : Type 0} (w : WatchView W) (f : Feeder) (c : ℕ × ℤ) (grew after : MonitorView) (broken : Bool) → IsReady w f c → grew ≡ growing w.monitor f.0 c → Raises grew f (o.Done broken) after → Counts w f c broken (after_told w f c)
told_counts w f c grew after broken r is raised =
    let same = told_is w f c grew after broken is raised in
    let once = told_once w.monitor.setup w.monitor.trail f c r.is.within r.is.legal r.is.waits r.next in
    record {
      opened = r.next;
      told = refl;
      values = once.1.1.1;
      broken_is = raised.2 ∙ ap (λ (m : MonitorView). is_broken m.setup m.trail) same;
    }

-- where it stands then
pub told_stands : {W : Type 0} (w : WatchView W) (grew after : StandingView W) (f : Feeder) (c : ℕ × ℤ) (broken : Bool) (weight : ℕ) (counts : List ℕ)
    → grew ≡ over (record { monitor = w.monitor; port = w.port }) (growing w.monitor f.0 c) → Raises grew.monitor f (o.Done broken) after.monitor → after ≡ over grew after.monitor
    → weight ≡ w.weight + unsigned_abs c.1 → counts ≡ counted w.counts f.0
    → record w { monitor = after.monitor; port = after.port; weight = weight; counts = counts } ≡ after_told w f c
told_stands w grew after f c broken weight counts grew_is raises rest weighs counted_ =
    let told = told_of w.monitor f c in
    let monitor : after.monitor ≡ told = told_is w f c grew.monitor after.monitor broken (ap (λ (s : StandingView _). s.monitor) grew_is) raises in
    let port : after.port ≡ port_over w.port told =
    ap (λ (s : StandingView _). s.port) rest
    ∙ ap₂ (λ (p : Option (PortView _)) (m : MonitorView). port_over p m) (ap (λ (s : StandingView _). s.port) grew_is) monitor
    ∙ port_over_over w.port (growing w.monitor f.0 c) told in
    ap (λ (m : MonitorView). record w { monitor = m; port = after.port; weight = weight; counts = counts }) monitor
    ∙ ap (λ (p : Option (PortView _)). record w { monitor = told; port = p; weight = weight; counts = counts }) port
    ∙ ap (λ (n : ℕ). record w { monitor = told; port = port_over w.port told; weight = n; counts = counts }) weighs
    ∙ ap (λ (ns : List ℕ). record w { monitor = told; port = port_over w.port told; weight = w.weight + unsigned_abs c.1; counts = ns }) counted_

-- ---- a closing record

-- the watch once a closing record was raised
abbrev pub after_closed : {W : Type 0} → WatchView W → Feeder → WatchView W
after_closed w f = record (with_monitor w (record w.monitor { trail = w.monitor.trail ++ Raised f ∷ [] })) { counts = counted w.counts f.0 }

pub closed_keeps : {W : Type 0} (w : WatchView W) (f : Feeder) → IsWatch w → HasNext w.monitor.setup w.monitor.trail f.0 → IsWatch (after_closed w f)
closed_keeps w f is next =
    let once = closed_once w.monitor.setup w.monitor.trail f is.within is.legal is.waits next in
    record {
      within = is.within;
      legal = once.0;
      waits = once.1.0;
      weighs = is.weighs;
      number = is.number;
      counts = length-counted w.counts f.0 ∙ is.counts;
      version = is.version;
    }

pub open_at : {W : Type 0} (w : WatchView W) (g : ℕ) → IsWatch w → HasNext w.monitor.setup w.monitor.trail g → IsOpenAt w.monitor.setup w.monitor.trail g
open_at w g is next =
    elim (is.waits g next.from_one next.one_of) [ inl opened ↦ opened | inr closed ↦ absurd (omega (arith, closed, next.not_ended)) ]

-- where it stands then
pub closed_stands : {W : Type 0} (w : WatchView W) (after : StandingView W) (f : Feeder) (broken : Bool) (counts : List ℕ)
    → Raises w.monitor f (o.Done broken) after.monitor → after ≡ over (record { monitor = w.monitor; port = w.port }) after.monitor → counts ≡ counted w.counts f.0
    → record w { monitor = after.monitor; port = after.port; counts = counts } ≡ after_closed w f
closed_stands w after f broken counts raises rest counted_ =
    let closed : MonitorView = record w.monitor { trail = w.monitor.trail ++ Raised f ∷ [] } in
    let monitor : after.monitor ≡ closed = raises.1 in
    let port : after.port ≡ port_over w.port closed = ap (λ (s : StandingView _). s.port) rest ∙ ap (λ (m : MonitorView). port_over w.port m) monitor in
    ap (λ (m : MonitorView). record w { monitor = m; port = after.port; counts = counts }) monitor
    ∙ ap (λ (p : Option (PortView _)). record w { monitor = closed; port = p; counts = counts }) port
    ∙ ap (λ (ns : List ℕ). record w { monitor = closed; port = port_over w.port closed; counts = ns }) counted_

pub closes_by : {W : Type 0} (w new : WatchView W) (after : MonitorView) (f : Feeder) (broken : Bool) → IsWatch w → Raises w.monitor f (o.Done broken) after → new ≡ after_closed w f → Closes w f (o.Done broken) new
closes_by w new after f broken is raises same = (
  open_at w f.0 is raises.0,
  (
    same,
    raises.2 ∙ ap (λ (m : MonitorView). is_broken m.setup m.trail) raises.1 ∙ sym (ap (λ (v : WatchView _). is_broken v.monitor.setup v.monitor.trail) same),
  ),
)

-- A look at a connection.
use Rattle.std.proofs.Common.{◌≡◌, ℕ, ◌-◌, ◌<◌, ◌≤◌, List, [], ◌∷◌, ◌++◌, length, get_or, inl, inr, Option, Some, None, refl, sym, ap, ◌∙◌, subst, arith}
use Rattle.std.specs.Prelude.{IfSome, slice_get}
use Rattle.tk_monitor.specs.Monitored.{MonitorView}
use Rattle.tk_monitor.specs.Stepped.{checking, taking}
use Rattle.tk_trail.specs.Frames.{answer_to, due_at}
use Rattle.tk_trail.specs.Legal.{place_of}
use Rattle.tk_trail.specs.Readings.{is_stopped, places_at}
use Rattle.tk_trail.specs.Setup.{IsSetup, MonitorSetup}
use Rattle.tk_trail.specs.declared.entry.Entry.{Entry}
use Rattle.tk_trail.specs.declared.entry.Entry.TheVariants.{Took}
use Rattle.tk_trail.proofs.PlacesLemmas.{answered_places, places_at-took}
use Rattle.tk_compact.specs.Room.{IsWaiting, IsWeighed}
use Rattle.tk_port.specs.Port.{IsPort, PortView}
use Rattle.tk_port.specs.Turn.{Checks, Reaches, Stays, Takes}
use Rattle.tk_port.proofs.ExchangeLemmas.{reaches_setup}
use Rattle.tk_port.proofs.PortLemmas.{reaches_legal}
use Rattle.tk_watch.specs.Standing.{StandingView}
use Rattle.tk_watch.specs.TrailSize.{KeepsRoom}
use Rattle.tk_watch.specs.Turning.{Looks, LooksAt, LooksOn, SaysOf}
use Rattle.tk_watch.specs.Watch.{IsConnected, IsEndOf, IsWatch, KeepsPort, Shows, Tells, Turns, WatchView, named_of}
use Rattle.tk_watch.specs.declared.cause.Cause.TheVariants as c
use Rattle.tk_watch.specs.declared.turned.Turned.{Turned}
use Rattle.tk_watch.specs.declared.turned.Turned.TheVariants as t

-- ---- places

-- no frame and no check moves a place
pub reaches_places : (a b : MonitorView) → Reaches a b → places_at b.setup b.trail ≡ places_at a.setup a.trail
reaches_places a b (Stays from to is) = ap (λ (m : MonitorView). places_at m.setup m.trail) is
reaches_places a b (Takes from to frame none q) =
    reaches_places (taking a frame) b q
    ∙ answered_places a.setup (a.trail ++ Took frame ∷ []) (answer_to a.setup (a.trail ++ Took frame ∷ []) frame)
    ∙ places_at-took a.setup a.trail frame
reaches_places a b (Checks from to q) = reaches_places (checking a) b q ∙ answered_places a.setup a.trail (due_at a.setup a.trail)

waits_on : (setup : MonitorSetup) (a b : List Entry) → places_at setup b ≡ places_at setup a → IsWaiting setup a → IsWaiting setup b
waits_on setup a b same waits g low high =
    let at : place_of setup b g ≡ place_of setup a g = ap (λ (ps : List ℕ). get_or ps (g - 1) 0) same in
    elim (waits g low high) [
      | inl opened ↦ inl (record {
        one_left = omega (arith, at, opened.one_left);
        closes = ap (λ (n : ℕ). slice_get (get_or setup.parts (g - 1) []) n) at ∙ opened.closes;
      })
      | inr closed ↦ inr (at ∙ closed)
    ]

-- ---- what a watch keeps

-- a monitor that got on in place of a watch's own, over a port or none
pub turned_keeps : {W : Type 0} (w : WatchView W) (m : MonitorView) (port : Option (PortView W)) → IsWatch w → Reaches w.monitor m → IsWatch (record w { monitor = m; port = port })
turned_keeps w m port is reaches =
    let setup : m.setup ≡ w.monitor.setup = (reaches_setup w.monitor m reaches).1 in
    let places : places_at w.monitor.setup m.trail ≡ places_at w.monitor.setup w.monitor.trail = ap (λ (s : MonitorSetup). places_at s m.trail) (sym setup) ∙ reaches_places w.monitor m reaches in
    record {
      within = subst IsSetup (sym setup) is.within;
      legal = reaches_legal w.monitor m is.within reaches is.legal;
      waits = subst (λ (s : MonitorSetup). IsWaiting s m.trail) (sym setup) (waits_on w.monitor.setup w.monitor.trail m.trail places is.waits);
      weighs = subst (λ (s : MonitorSetup). IsWeighed s w.weight) (sym setup) is.weighs;
      number = subst (λ (s : MonitorSetup). (0 < s.number) × (s.number ≤ 64)) (sym setup) is.number;
      counts = is.counts ∙ ap (λ (s : MonitorSetup). length s.parts) (sym setup);
      version = is.version;
    }

-- what no turn changes
pub turned_named : {W : Type 0} (turned : Turned) (old new : WatchView W) → Turns turned old new → named_of new ≡ named_of old
turned_named turned old new turns =
    let setup : new.monitor.setup ≡ old.monitor.setup = (reaches_setup old.monitor new.monitor turns.reaches).1 in
    let run : new.run ≡ old.run = ap (λ (w : WatchView _). w.run) turns.rest in
    let version : new.version ≡ old.version = ap (λ (w : WatchView _). w.version) turns.rest in
    cc

-- ---- a look

pub looks_away : {W : Type 0} (port : PortView W) → Looks (t.Left c.Link) port port
looks_away port = record { reaches = Stays port.monitor port.monitor refl; says = tt }

-- what a look says of the watch
tells_of : {W : Type 0} (turned : Turned) (w : WatchView W) (after : PortView W) → w.monitor ≡ after.monitor → w.port ≡ Some after → SaysOf turned after → Tells turned w
tells_of t.More w after monitor port says = tt
tells_of t.Quiet w after monitor port says = tt
tells_of t.Stopped w after monitor port says = ap (λ (m : MonitorView). is_stopped m.trail) monitor ∙ says
tells_of (t.Left cause) w after monitor port says = subst (λ (o : Option (PortView _)). Shows cause o) (sym port) says

-- it leaves the watch at its end of the connection
port_of : {W : Type 0} (turned : Turned) (w : WatchView W) → IsConnected w → KeepsPort turned w
port_of t.More w is = is
port_of t.Quiet w is = is
port_of t.Stopped w is = is
port_of (t.Left cause) w is = subst (λ (o : Option (PortView _)). IfSome o (IsEndOf w)) (sym is.joined) is.end

turns_on : {W : Type 0} (turned : Turned) (w : WatchView W) (new : StandingView W) → LooksOn turned (record { monitor = w.monitor; port = w.port }) new → Turns turned w (record w { monitor = new.monitor; port = new.port })
turns_on turned w new on = record {
  reaches = on.reaches;
  tells = tells_of turned (record w { monitor = new.monitor; port = new.port }) on.after (ap (λ (s : StandingView _). s.monitor) on.is) (ap (λ (s : StandingView _). s.port) on.is) on.says;
  room = subst (λ (m : MonitorView). KeepsRoom turned m.trail) (sym (ap (λ (s : StandingView _). s.monitor) on.is)) on.room;
  end = port_of turned (record w { monitor = new.monitor; port = new.port }) (record {
    port = on.after;
    joined = ap (λ (s : StandingView _). s.port) on.is;
    end = record { monitor = sym (ap (λ (s : StandingView _). s.monitor) on.is); kept = on.kept };
  });
  rest = refl;
}

-- without a connection nothing happens
turns_off : {W : Type 0} (w : WatchView W) → w.port ≡ None → Turns (t.Left c.Full) w w
turns_off w none = record { reaches = Stays w.monitor w.monitor refl; tells = subst (λ (o : Option (PortView _)). Shows c.Full o) (sym none) tt; room = tt; end = subst (λ (o : Option (PortView _)). IfSome o (IsEndOf w)) (sym none) tt; rest = refl }

-- either way
pub turns_by : {W : Type 0} (p : Option (PortView W)) (turned : Turned) (w : WatchView W) (new : StandingView W) → w.port ≡ p
    → (w.port ≡ None → (turned ≡ t.Left c.Full) × (new ≡ record { monitor = w.monitor; port = w.port }))
    → LooksAt turned (record { monitor = w.monitor; port = w.port }) new
    → Turns turned w (record w { monitor = new.monitor; port = new.port })
turns_by None turned w new is idle looks =
    let rest = idle is in
    subst (λ (u : Turned). Turns u w (record w { monitor = new.monitor; port = new.port })) (sym rest.0)
    (subst (λ (s : StandingView _). Turns (t.Left c.Full) w (record w { monitor = s.monitor; port = s.port })) (sym rest.1) (turns_off w is))
turns_by (Some before) turned w new is idle looks =
    turns_on turned w new (subst (λ (o : Option (PortView _)). IfSome o (λ b. LooksOn turned (record { monitor = w.monitor; port = w.port }) new)) is looks)

-- ---- where a monitor stands

pub looks_idle : {W : Type 0} (turned : Turned) (old new : StandingView W) → old.port ≡ None → LooksAt turned old new
looks_idle turned old new none = subst (λ (o : Option (PortView _)). IfSome o (λ before. LooksOn turned old new)) (sym none) tt

pub looks_joined : {W : Type 0} (turned : Turned) (old : StandingView W) (before after : PortView W) → old ≡ record { monitor = before.monitor; port = Some before } → Looks turned before after → KeepsRoom turned after.monitor.trail → IsPort after → LooksAt turned old (record { monitor = after.monitor; port = Some after })
looks_joined {W} turned old before after is looks room kept =
    let new : StandingView W = record { monitor = after.monitor; port = Some after } in
    subst (λ (s : StandingView W). LooksAt turned s new) (sym is) (record { after = after; is = refl; reaches = looks.reaches; says = looks.says; room = room; kept = kept })

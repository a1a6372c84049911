-- What the type of a port keeps, over each of its calls.
use Rattle.std.specs.Prelude.{ℤ}
use Rattle.std.proofs.Common.{◌≡◌, ◌≤◌, ℕ, [], ◌∷◌, ◌++◌, length, take, refl, sym, ap, ◌∙◌, subst, Result, Ok, Err, OnOk, OnErr}
use Rattle.tk_base.specs.declared.memory.NoMemory.{NoMemory}
use Rattle.tk_monitor.specs.declared.outcome.Checked.{Checked}
use Rattle.tk_base.specs.declared.ids.Feeder.{Feeder}
use Rattle.tk_frames.specs.declared.frame.Frame.TheVariants as f
use Rattle.tk_frames.specs.Spelling.{IsVersion}
use Rattle.tk_monitor.specs.Monitored.{MonitorView, Raises}
use Rattle.tk_monitor.specs.declared.outcome.Raised.{Raised as Outcome}
use Rattle.tk_monitor.specs.declared.outcome.Raised.TheVariants.{Done, Ended}
use Rattle.tk_trail.proofs.LegalLemmas.{legal_checked, legal_taken}
use Rattle.tk_trail.proofs.ReadingsLemmas.{sent_by-raised, taken_by-raised}
use Rattle.tk_trail.specs.Legal.{IsLegal}
use Rattle.tk_trail.specs.Readings.{sent_by, taken_by}
use Rattle.tk_trail.specs.Setup.{IsSetup}
use Rattle.tk_trail.specs.declared.entry.Entry.TheVariants.{Raised}
use Rattle.tk_end.specs.Link.{IsEnd, IsShut, LinkView, Says, over}
use Rattle.tk_wire.specs.Meanings.{Traffic}
use Rattle.tk_wire.specs.Parse.{IsEncoding, IsParse}
use Rattle.tk_end.proofs.EndLemmas.{shut_end}
use Rattle.tk_monitor.specs.Stepped.{taking, checking, growing}
use Rattle.tk_trail.specs.Growing.{grown, grown_parts}
use Rattle.tk_trail.specs.Legal.{HasNext}
use Rattle.tk_trail.proofs.AlikeLemmas.{refusal_alike}
use Rattle.tk_trail.proofs.GrowingLemmas.{grown_legal}
use Rattle.tk_port.specs.Port.{IsOnCourse, IsPort}
use Rattle.tk_port.specs.Turn.{Exchanges, Reaches, Stays, Takes, Checks}
use Rattle.tk_port.specs.declared.course.Course.{Course}
use Rattle.tk_port.specs.declared.course.Course.TheVariants as c
use Rattle.tk_port.specs.declared.side.Side.{Side}
use Rattle.tk_port.proofs.ExchangeLemmas.{exchanges_checked, exchanges_said}
use Rattle.tk_port.proofs.SideLemmas.{refusal_raised}

abbrev raised : MonitorView → Feeder → MonitorView
raised m feeder = record m { trail = m.trail ++ Raised feeder ∷ [] }

course_raised : {W : Type 0} (link : LinkView W) (m : MonitorView) (feeder : Feeder) (course : Course) → IsOnCourse link m course → IsOnCourse link (raised m feeder) course
course_raised link m feeder c.Open is = is
course_raised link m feeder c.Halted is = is
course_raised link m feeder c.Failed is = is
course_raised link m feeder (c.Refused why) is = (is.0, record { frame = is.1.frame; read = is.1.read; rest = is.1.rest; leaves = is.1.leaves; refused = refusal_raised m.setup m.trail feeder is.1.frame ∙ is.1.refused })
course_raised link m feeder (c.Bad fault) is = is

port_raised : {W : Type 0} (run : ℕ) (m : MonitorView) (link : LinkView W) (course : Course) (feeder : Feeder) → IsPort (record { run = run; monitor = m; link = link; course = course }) → IsLegal m.setup (m.trail ++ Raised feeder ∷ []) → IsPort (record { run = run; monitor = raised m feeder; link = link; course = course })
port_raised run m link course feeder p legal =
    let sent = sent_by-raised m.trail feeder in
    record {
      version = p.version;
      setup = p.setup;
      legal = legal;
      written = subst (λ fs. link.written ≤ length fs) (sym sent) p.written;
      ends =
          subst (λ fs. IsEnd link (taken_by (m.trail ++ Raised feeder ∷ [])) (f.Hello run link.version (record { 0 = m.setup.number }) ∷ take link.written fs)) (sym sent)
          (subst (λ fs. IsEnd link fs (f.Hello run link.version (record { 0 = m.setup.number }) ∷ take link.written (sent_by m.trail))) (sym (taken_by-raised m.trail feeder)) p.ends);
      course = course_raised link m feeder course p.course;
    }

-- one more change counts, or none
pub port_after_raise : {W : Type 0} (run : ℕ) (m n : MonitorView) (link : LinkView W) (course : Course) (feeder : Feeder) (outcome : Outcome) → IsPort (record { run = run; monitor = m; link = link; course = course }) → Raises m feeder outcome n → IsLegal n.setup n.trail → IsPort (record { run = run; monitor = n; link = link; course = course })
port_after_raise {W} run m n link course feeder (Done broken) p raises legal =
    let Kept : MonitorView → Type 0 = λ x. IsPort {W = W} (record { run = run; monitor = x; link = link; course = course }) in
    subst Kept (sym raises.1) (port_raised run m link course feeder p (subst (λ x. IsLegal x.setup x.trail) raises.1 legal))
port_after_raise {W} run m n link course feeder Ended p raises legal =
    let Kept : MonitorView → Type 0 = λ x. IsPort {W = W} (record { run = run; monitor = x; link = link; course = course }) in
    subst Kept (sym raises.1) p

-- the log of a feeder has a change more
course_grown : {W : Type 0} (link : LinkView W) (m : MonitorView) (g : ℕ) (change : ℕ × ℤ) (course : Course) → IsOnCourse link m course → IsOnCourse link (growing m g change) course
course_grown link m g change c.Open is = is
course_grown link m g change c.Halted is = is
course_grown link m g change c.Failed is = is
course_grown link m g change (c.Refused why) is = (is.0, record { frame = is.1.frame; read = is.1.read; rest = is.1.rest; leaves = is.1.leaves; refused = sym (refusal_alike m.setup (grown_parts m.setup.parts g change) m.trail is.1.frame) ∙ is.1.refused })
course_grown link m g change (c.Bad fault) is = is

pub port_grown : {W : Type 0} (run : ℕ) (m : MonitorView) (link : LinkView W) (course : Course) (g : ℕ) (change : ℕ × ℤ) → IsPort (record { run = run; monitor = m; link = link; course = course }) → HasNext m.setup m.trail g → IsSetup (grown m.setup g change) → IsPort (record { run = run; monitor = growing m g change; link = link; course = course })
port_grown run m link course g change p next within = record {
  version = p.version;
  setup = within;
  legal = grown_legal m.setup m.trail g change p.setup.from next p.legal;
  written = p.written;
  ends = p.ends;
  course = course_grown link m g change course p.course;
}

-- where there was no memory for it, nothing changed
pub port_after_grow : {W : Type 0} (run : ℕ) (m n : MonitorView) (link : LinkView W) (course : Course) (g : ℕ) (change : ℕ × ℤ) (r : Result (Unit {0}) NoMemory) → IsPort (record { run = run; monitor = m; link = link; course = course }) → HasNext m.setup m.trail g → IsSetup (grown m.setup g change) → OnOk r (n ≡ growing m g change) → OnErr r (n ≡ m) → IsPort (record { run = run; monitor = n; link = link; course = course })
port_after_grow {W} run m n link course g change (Ok done) p next within ok err =
    subst (λ x. IsPort {W = W} (record { run = run; monitor = x; link = link; course = course })) (sym ok) (port_grown run m link course g change p next within)
port_after_grow {W} run m n link course g change (Err lacking) p next within ok err =
    subst (λ x. IsPort {W = W} (record { run = run; monitor = x; link = link; course = course })) (sym err) p

-- frames that are taken and checks keep the trail legal
pub reaches_legal : (a b : MonitorView) → IsSetup a.setup → Reaches a b → IsLegal a.setup a.trail → IsLegal b.setup b.trail
reaches_legal a b setup (Stays from to is) legal = subst (λ m. IsLegal m.setup m.trail) (sym is) legal
reaches_legal a b setup (Takes from to frame none p) legal = reaches_legal (taking a frame) b setup p (legal_taken a.setup a.trail frame legal none)
reaches_legal a b setup (Checks from to p) legal = reaches_legal (checking a) b setup p (legal_checked a.setup setup.from.shape a.trail legal)

-- part of a turn leaves a port, if the course is that of what it leaves
pub port_exchanged : {W : Type 0} (run least : ℕ) (x y : LinkView W) (a b : Side) (before course : Course) → IsPort (record { run = run; monitor = a.monitor; link = x; course = before }) → Exchanges least x y a b → IsOnCourse y b.monitor course → IsPort (record { run = run; monitor = b.monitor; link = y; course = course })
port_exchanged {W} run least x y a b before course p e on =
    let number = ap (λ s. s.number) e.setup in
    let ends = e.ends (f.Hello run x.version (record { 0 = a.monitor.setup.number }) ∷ []) p.written p.ends in
    record {
      version = subst IsVersion (sym e.passes.version) p.version;
      setup = subst IsSetup (sym e.setup) p.setup;
      legal = reaches_legal a.monitor b.monitor p.setup e.reaches p.legal;
      written = e.within p.written;
      ends =
          subst (λ v. IsEnd y (taken_by b.monitor.trail) (f.Hello run v (record { 0 = b.monitor.setup.number }) ∷ take y.written (sent_by b.monitor.trail))) (sym e.passes.version)
          (subst (λ n. IsEnd y (taken_by b.monitor.trail) (f.Hello run x.version (record { 0 = n }) ∷ take y.written (sent_by b.monitor.trail))) (sym number) ends);
      course = on;
    }

-- a port whose wire is shut
pub port_shut : {W : Type 0} (run : ℕ) (x y : LinkView W) (m : MonitorView) (before course : Course) → IsPort (record { run = run; monitor = m; link = x; course = before }) → IsShut x y → IsOnCourse y m course → IsPort (record { run = run; monitor = m; link = y; course = course })
port_shut run x y m before course p s on = record {
  version = subst IsVersion (sym s.version) p.version;
  setup = p.setup;
  legal = p.legal;
  written = subst (λ n. n ≤ length (sent_by m.trail)) (sym s.written) p.written;
  ends =
      subst (λ n. IsEnd y (taken_by m.trail) (f.Hello run y.version (record { 0 = m.setup.number }) ∷ take n (sent_by m.trail))) (sym s.written)
      (subst (λ v. IsEnd y (taken_by m.trail) (f.Hello run v (record { 0 = m.setup.number }) ∷ take x.written (sent_by m.trail))) (sym s.version)
      (shut_end (taken_by m.trail) (f.Hello run x.version (record { 0 = m.setup.number }) ∷ take x.written (sent_by m.trail)) x y s p.ends));
  course = on;
}

-- a check that found the memory, or changed nothing
pub port_after_check : {W : Type 0} (run : ℕ) (m n : MonitorView) (x : LinkView W) (course : Course) (result : Result Checked NoMemory) → IsPort (record { run = run; monitor = m; link = x; course = course }) → course ≡ c.Open → OnOk result (n ≡ checking m) → OnErr result (n ≡ m) → IsPort (record { run = run; monitor = n; link = x; course = course })
port_after_check {W} run m n x course (Ok u) p open_ is err =
    let on : IsOnCourse x (checking m) course = subst (IsOnCourse x (checking m)) (sym open_) (subst (IsOnCourse x m) open_ p.course) in
    let Kept : MonitorView → Type 0 = λ y. IsPort {W = W} (record { run = run; monitor = y; link = x; course = course }) in
    subst Kept (sym is) (port_exchanged run 0 x x (record { monitor = m }) (record { monitor = checking m }) course course p (exchanges_checked x (record { monitor = m }) (record { monitor = checking m }) refl) on)
port_after_check {W} run m n x course (Err e) p open_ is err =
    let Kept : MonitorView → Type 0 = λ y. IsPort {W = W} (record { run = run; monitor = y; link = x; course = course }) in
    subst Kept (sym err) p

-- a push
pub port_after_push : {W : Type 0} (run : ℕ) (m : MonitorView) (x y : LinkView W) (course : Course) → IsPort (record { run = run; monitor = m; link = x; course = course }) → course ≡ c.Open → Says (sent_by m.trail) x y → IsPort (record { run = run; monitor = m; link = y; course = course })
port_after_push run m x y course p open_ says =
    let on : IsOnCourse y m course = subst (IsOnCourse y m) (sym open_) (says.shut ∙ subst (IsOnCourse x m) open_ p.course) in
    port_exchanged run 0 x y (record { monitor = m }) (record { monitor = m }) course course p (exchanges_said x y (record { monitor = m }) says) on

-- bytes that leave or reach the wire in memory change nothing that was heard or said
course_piped : {W : Type 0} (x : LinkView W) (bearing : Traffic → W → W) (t : Traffic) (m : MonitorView) (course : Course) → IsOnCourse x m course → IsOnCourse (over bearing t x) m course
course_piped x bearing t m c.Open is = is
course_piped x bearing t m c.Halted is = is
course_piped x bearing t m c.Failed is = is
course_piped x bearing t m (c.Refused why) is = is
course_piped x bearing t m (c.Bad fault) is = is

pub port_piped : {W : Type 0} (run : ℕ) (m : MonitorView) (x y : LinkView W) (bearing : Traffic → W → W) (t : Traffic) (course : Course) → IsPort (record { run = run; monitor = m; link = x; course = course }) → y ≡ over bearing t x → t.came ≡ x.traffic.came → t.went ≡ x.traffic.went → IsPort (record { run = run; monitor = m; link = y; course = course })
port_piped {W} run m x y bearing t course p is came went =
    let Kept : LinkView W → Type 0 = λ l. IsPort (record { run = run; monitor = m; link = l; course = course }) in
    let heard = taken_by m.trail in
    let said = f.Hello run x.version (record { 0 = m.setup.number }) ∷ take x.written (sent_by m.trail) in
    subst Kept (sym is) (record {
      version = p.version;
      setup = p.setup;
      legal = p.legal;
      written = p.written;
      ends = record {
        came = λ tells. subst (λ xs. IsParse x.version heard xs x.unread) (sym came) (p.ends.came tells);
        went = λ tells. subst (λ xs. IsEncoding x.version said xs x.output) (sym went) (p.ends.went tells);
        covered = p.ends.covered;
      };
      course = course_piped x bearing t m course p.course;
    })

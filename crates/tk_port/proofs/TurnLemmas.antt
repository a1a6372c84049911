-- A turn of a port, and what its course leaves.
use Rattle.std.proofs.Common.{◌≡◌, ℕ, refl, sym, ◌∙◌, subst, arith, true, false, None, Some}
use Rattle.tk_frames.specs.declared.answer.Next.TheVariants as n
use Rattle.tk_frames.specs.Answer.{Answers}
use Rattle.tk_monitor.specs.Monitored.{MonitorView}
use Rattle.tk_trail.specs.Readings.{is_stopped}
use Rattle.tk_wire.specs.Meanings.{Counts}
use Rattle.tk_end.specs.Hearing.{IsRefused}
use Rattle.tk_end.specs.Inbox.{Leaves}
use Rattle.tk_end.specs.Link.{IsShut, Keeps, LinkView, Passes}
use Rattle.tk_end.proofs.PassingLemmas.{passes_nothing, passes_on, passes_shut}
use Rattle.tk_port.specs.Port.{EndsOne, IsOnCourse, IsPort, PortView, Shuts, TakesUpTo, Turns, TurnsOne, answer_of, course_of}
use Rattle.tk_port.specs.Side.{refuses}
use Rattle.tk_port.specs.Turn.{CountsTurned, Ends, Exchanges, IsAtRest, Stays, goes_on, pieces_of}
use Rattle.tk_port.specs.declared.course.Course.{Course}
use Rattle.tk_port.specs.declared.course.Course.TheVariants as c
use Rattle.tk_port.specs.declared.side.Side.{Side}
use Rattle.tk_port.specs.declared.turn.Turn.{Turn}
use Rattle.tk_port.specs.declared.turn.Turn.TheVariants as t
use Rattle.tk_port.proofs.PortLemmas.{port_exchanged, port_shut}

refused_shut : {W : Type 0} (y z : LinkView W) (side : Side) (why : Rattle.tk_trail.specs.declared.refusal.MonitorRefusal.MonitorRefusal) → IsShut y z → IsRefused refuses 0 y.version y.unread y.front side why → IsRefused refuses 0 z.version z.unread z.front side why
refused_shut y z side why s r = record {
  frame = r.frame;
  read = s.front ∙ r.read;
  rest = r.rest;
  leaves = subst (λ v. Leaves v r.frame z.unread r.rest) (sym s.version) (subst (λ xs. Leaves y.version r.frame xs r.rest) (sym s.unread) r.leaves);
  refused = r.refused;
}

answers_shut : {W : Type 0} (y z : LinkView W) (next : Rattle.tk_frames.specs.declared.answer.Next.Next) → IsShut y z → Answers y.version y.unread next → Answers z.version z.unread next
answers_shut y z next s a = subst (λ v. Answers v z.unread next) (sym s.version) (subst (λ xs. Answers y.version xs next) (sym s.unread) a)

-- what the course leaves
record Leaves_on {W : Type 0} (turn : Turn) (y z : LinkView W) (side : Side) : Type 0 where
  passes : Passes 0 y z
  counts : z.counts ≡ y.counts
  written : z.written ≡ y.written
  output : z.output ≡ y.output
  ends : Ends y side turn → Ends z side turn
  on : y.shut ≡ false → EndsOne y side.monitor turn → IsOnCourse z side.monitor (course_of turn)
  rest : goes_on turn ≡ true → IsAtRest y side.monitor → IsAtRest z side.monitor

stays : {W : Type 0} (turn : Turn) (y z : LinkView W) (side : Side) → course_of turn ≡ c.Open → z ≡ y → Leaves_on turn y z side
stays turn y z side open_ is = subst (λ x. Leaves_on turn y x side) (sym is) (record {
  passes = passes_nothing y;
  counts = refl;
  written = refl;
  output = refl;
  ends = λ e. e;
  on = λ shut e. subst (IsOnCourse y side.monitor) (sym open_) shut;
  rest = λ _ r. r;
})

leaves_on : {W : Type 0} (turn : Turn) (y z : LinkView W) (side : Side) → Shuts (course_of turn) y z → Leaves_on turn y z side
leaves_on t.Quiet y z side s = stays t.Quiet y z side refl s
leaves_on t.More y z side s = stays t.More y z side refl s
leaves_on t.Stopped y z side s = stays t.Stopped y z side refl s
leaves_on t.NoMemory y z side s = stays t.NoMemory y z side refl s
leaves_on t.Failed y z side s = record { passes = passes_shut y z s; counts = s.counts; written = s.written; output = s.output; ends = λ e. e; on = λ shut e. s.shut; rest = λ goes r. absurd (cc) }
leaves_on (t.Refused why) y z side s = record { passes = passes_shut y z s; counts = s.counts; written = s.written; output = s.output; ends = refused_shut y z side why s; on = λ shut e. (s.shut, refused_shut y z side why s e); rest = λ goes r. absurd (cc) }
leaves_on (t.Bad fault) y z side s = record {
  passes = passes_shut y z s;
  counts = s.counts;
  written = s.written;
  output = s.output;
  ends = λ e. (answers_shut y z (n.Bad fault) s e.0, s.front ∙ e.1);
  on = λ shut e. (s.shut, answers_shut y z (n.Bad fault) s e.0, s.front ∙ e.1);
  rest = λ goes r. absurd (cc);
}

-- the type is kept over a turn
port_closed : {W : Type 0} (run : ℕ) (turn : Turn) (y z : LinkView W) (m : MonitorView) → IsPort (record { run = run; monitor = m; link = y; course = c.Open }) → Shuts (course_of turn) y z → IsOnCourse z m (course_of turn) → IsPort (record { run = run; monitor = m; link = z; course = course_of turn })
port_closed {W} run t.Quiet y z m p s on = let Kept : LinkView W → Type 0 = λ l. IsPort (record { run = run; monitor = m; link = l; course = c.Open }) in subst Kept (sym s) p
port_closed {W} run t.More y z m p s on = let Kept : LinkView W → Type 0 = λ l. IsPort (record { run = run; monitor = m; link = l; course = c.Open }) in subst Kept (sym s) p
port_closed {W} run t.Stopped y z m p s on = let Kept : LinkView W → Type 0 = λ l. IsPort (record { run = run; monitor = m; link = l; course = c.Open }) in subst Kept (sym s) p
port_closed {W} run t.NoMemory y z m p s on = let Kept : LinkView W → Type 0 = λ l. IsPort (record { run = run; monitor = m; link = l; course = c.Open }) in subst Kept (sym s) p
port_closed run t.Failed y z m p s on = port_shut run y z m c.Open c.Failed p s on
port_closed run (t.Refused why) y z m p s on = port_shut run y z m c.Open (c.Refused why) p s on
port_closed run (t.Bad fault) y z m p s on = port_shut run y z m c.Open (c.Bad fault) p s on

pub port_concluded : {W : Type 0} (run least : ℕ) (turn : Turn) (x y z : LinkView W) (a b : Side) (before course : Course) → IsPort (record { run = run; monitor = a.monitor; link = x; course = before }) → before ≡ c.Open → Exchanges least x y a b → EndsOne y b.monitor turn → Shuts (course_of turn) y z → course ≡ course_of turn → IsPort (record { run = run; monitor = b.monitor; link = z; course = course })
port_concluded {W} run least turn x y z a b before course p open_ e ends s is =
    let shut : y.shut ≡ false = e.shut ∙ subst (IsOnCourse x a.monitor) open_ p.course in
    let mid = port_exchanged run least x y a b before c.Open p e shut in
    let Kept : Course → Type 0 = λ k. IsPort {W = W} (record { run = run; monitor = b.monitor; link = z; course = k }) in
    subst Kept (sym is) (port_closed run turn y z b.monitor mid s ((leaves_on turn y z b s).on shut ends))

counts_same : (turn : Turn) (x y z : Counts) → z ≡ y → CountsTurned turn x y → CountsTurned turn x z
counts_same turn x y z is k = subst (CountsTurned turn x) (sym is) k

ends_left : {W : Type 0} (turn : Turn) (y z : LinkView W) (m : MonitorView) → Shuts (course_of turn) y z → EndsOne y m turn → EndsOne z m turn
ends_left t.Quiet y z m s e = (leaves_on t.Quiet y z (record { monitor = m }) s).ends e
ends_left t.More y z m s e = tt
ends_left t.Stopped y z m s e = tt
ends_left t.Failed y z m s e = tt
ends_left (t.Refused why) y z m s e = (leaves_on (t.Refused why) y z (record { monitor = m }) s).ends e
ends_left (t.Bad fault) y z m s e = (leaves_on (t.Bad fault) y z (record { monitor = m }) s).ends e
ends_left t.NoMemory y z m s e = tt

-- what a turn of one frame did
pub turns_one_concluded : {W : Type 0} (run : ℕ) (turn : Turn) (x y z : LinkView W) (a b : Side) (before course : Course) → Exchanges 0 x y a b → TakesUpTo turn a.monitor b.monitor → Keeps x y → EndsOne y b.monitor turn → CountsTurned turn x.counts y.counts → Shuts (course_of turn) y z → course ≡ course_of turn
    → TurnsOne turn (record { run = run; monitor = a.monitor; link = x; course = before }) (record { run = run; monitor = b.monitor; link = z; course = course })
turns_one_concluded run turn x y z a b before course e takes keeps ends counts s is =
    let left = leaves_on turn y z b s in
    record {
      run = refl;
      course = is;
      passes = passes_on 0 0 0 x y z (omega arith) e.passes left.passes;
      takes = takes;
      written = left.written ∙ keeps.written;
      output = left.output ∙ keeps.output;
      ends = ends_left turn y z b.monitor s ends;
      counts = counts_same turn x.counts y.counts z.counts left.counts counts;
    }

-- a port that was stopped does nothing
pub turns_stopped : {W : Type 0} (p : PortView W) → p.course ≡ c.Open → is_stopped p.monitor.trail ≡ true → Turns t.Stopped p p
turns_stopped p open_ stopped = record {
  run = refl;
  course = open_;
  passes = passes_nothing p.link;
  reaches = Stays p.monitor p.monitor refl;
  ends = stopped;
  counts = record { faults = refl; ends = refl };
  rest = λ goes. absurd (cc);
}

pub ends_one : {W : Type 0} (turn : Turn) (link : LinkView W) (side : Side) → Ends link side turn → EndsOne link side.monitor turn
ends_one t.Quiet link side e = e
ends_one t.More link side e = tt
ends_one t.Stopped link side e = tt
ends_one t.Failed link side e = tt
ends_one (t.Refused why) link side e = e
ends_one (t.Bad fault) link side e = e
ends_one t.NoMemory link side e = tt

-- a course that is not halted, and on which a turn answers nothing at once
pub goes : (course : Course) → (course ≡ c.Halted → ⊥) → answer_of course ≡ None → course ≡ c.Open
goes c.Open open_ none = refl
goes c.Halted open_ none = absurd (open_ refl)
goes c.Failed open_ none = absurd (cc)
goes (c.Refused why) open_ none = absurd (cc)
goes (c.Bad fault) open_ none = absurd (cc)

pub never_halts : (turn : Turn) → course_of turn ≡ c.Halted → ⊥
never_halts t.Quiet is = absurd (cc)
never_halts t.More is = absurd (cc)
never_halts t.Stopped is = absurd (cc)
never_halts t.Failed is = absurd (cc)
never_halts (t.Refused why) is = absurd (cc)
never_halts (t.Bad fault) is = absurd (cc)
never_halts t.NoMemory is = absurd (cc)

pub turns_concluded : {W : Type 0} (run : ℕ) (turn : Turn) (x y z : LinkView W) (a b : Side) (before course : Course) → Exchanges (pieces_of turn) x y a b → Ends y b turn → CountsTurned turn x.counts y.counts → (goes_on turn ≡ true → IsAtRest y b.monitor) → Shuts (course_of turn) y z → course ≡ course_of turn
    → Turns turn (record { run = run; monitor = a.monitor; link = x; course = before }) (record { run = run; monitor = b.monitor; link = z; course = course })
turns_concluded run turn x y z a b before course e ends counts rest s is =
    let left = leaves_on turn y z b s in
    record {
      run = refl;
      course = is;
      passes = passes_on (pieces_of turn) (pieces_of turn) 0 x y z (omega arith) e.passes left.passes;
      reaches = e.reaches;
      ends = left.ends ends;
      counts = counts_same turn x.counts y.counts z.counts left.counts counts;
      rest = λ goes. left.rest goes (rest goes);
    }

-- what a closed course answers
pub same_turn : (a b : Turn) → Some a ≡ Some b → a ≡ b
same_turn a b is = (cc)

pub none_answered : {P : Type 0} (turn : Turn) → None ≡ Some turn → P
none_answered turn is = absurd (cc)

pub answered_closed : {P : Type 0} (turn : Turn) (course : Course) → Some turn ≡ answer_of course → course ≡ c.Open → P
answered_closed turn c.Open is open_ = absurd (cc)
answered_closed turn c.Halted is open_ = absurd (cc)
answered_closed turn c.Failed is open_ = absurd (cc)
answered_closed turn (c.Refused why) is open_ = absurd (cc)
answered_closed turn (c.Bad fault) is open_ = absurd (cc)

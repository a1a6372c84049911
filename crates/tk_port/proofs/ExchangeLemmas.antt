-- What a port does in a turn, one part behind the other.
use Rattle.std.proofs.Common.{◌≡◌, ◌≤◌, ◌+◌, ℕ, List, [], ◌∷◌, ◌++◌, take, refl, sym, ap, ◌∙◌, subst, arith, true, false, Option, Some, None, IfNone, Bool, not, ◌⊎◌}
use Rattle.tk_frames.specs.Answer.{Answers}
use Rattle.tk_frames.specs.declared.answer.Next.TheVariants as n
use Rattle.tk_frames.specs.declared.frame.Frame.{Frame}
use Rattle.tk_monitor.specs.Monitored.{MonitorView}
use Rattle.tk_trail.proofs.DueLemmas.{after_check as due_after_check}
use Rattle.tk_trail.specs.Frames.{due_at}
use Rattle.tk_trail.specs.Legal.{after_check, with_answer}
use Rattle.tk_trail.specs.Setup.{MonitorSetup}
use Rattle.tk_trail.specs.declared.entry.Entry.{Entry}
use Rattle.tk_trail.specs.declared.entry.Entry.TheVariants.{Sent}
use Rattle.tk_trail.specs.Readings.{sent_by, taken_by}
use Rattle.tk_wire.specs.Meanings.{Counts, HasRisen}
use Rattle.tk_end.specs.Actor.{TakesAll}
use Rattle.tk_end.specs.Hearing.{Hears}
use Rattle.tk_end.specs.Link.{IsEnd, LinkView, Says}
use Rattle.tk_end.proofs.EndLemmas.{hears_end, said_grown, says_end}
use Rattle.tk_end.proofs.PassingLemmas.{passes_heard, passes_nothing, passes_on, passes_said}
use Rattle.tk_port.specs.Side.{heard_by, refuses, said_by, takes}
use Rattle.std.proofs.lemmas.Bool.{false≢true}
use Rattle.tk_base.proofs.BoolLemmas.{not_true, not_false}
use Rattle.tk_base.proofs.HistoryLemmas.{front_size}
use Rattle.tk_port.specs.declared.turn.Turn.{Turn}
use Rattle.tk_port.specs.declared.turn.Turn.TheVariants as t
use Rattle.tk_port.specs.Turn.{CountsTurned, Ends, Exchanges, IsSteady, HasSaid, IsAtRest, goes_on, pieces_of, Reaches, Stays, Takes, Checks}
use Rattle.tk_port.specs.declared.side.Side.{Side}
use Rattle.tk_port.proofs.SideLemmas.{answered_sent}
use Rattle.tk_input.proofs.CountLemmas.{not_some}
use Rattle.tk_trail.proofs.ReadingsLemmas.{answer_taken}
use Rattle.tk_monitor.specs.Stepped.{taking, checking}

pub reaches_on : (a b c : MonitorView) → Reaches a b → Reaches b c → Reaches a c
reaches_on a b c (Stays from to is) q = subst (λ m. Reaches m c) is q
reaches_on a b c (Takes from to frame none p) q = Takes a c frame none (reaches_on (taking a frame) b c p q)
reaches_on a b c (Checks from to p) q = Checks a c (reaches_on (checking a) b c p q)

pub reaches_taken : (frames : List Frame) (before now : Side) → TakesAll refuses takes 0 before frames now → Reaches before.monitor now.monitor
reaches_taken [] before now is = Stays before.monitor now.monitor (ap (λ s. s.monitor) is)
reaches_taken (frame ∷ frames) before now all = Takes before.monitor now.monitor frame all.0 (reaches_taken frames (takes 0 frame before) now all.1)

pub reaches_setup : (a b : MonitorView) → Reaches a b → (b.settings ≡ a.settings) × (b.setup ≡ a.setup)
reaches_setup a b (Stays from to is) = (ap (λ m. m.settings) is, ap (λ m. m.setup) is)
reaches_setup a b (Takes from to frame none p) = reaches_setup (taking a frame) b p
reaches_setup a b (Checks from to p) = reaches_setup (checking a) b p

-- frames are written and bytes are given
pub exchanges_said : {W : Type 0} (x y : LinkView W) (side : Side) → Says (sent_by side.monitor.trail) x y → Exchanges 0 x y side side
exchanges_said x y side s = record {
  passes = passes_said (sent_by side.monitor.trail) x y s;
  shut = s.shut;
  reaches = Stays side.monitor side.monitor refl;
  settings = refl;
  setup = refl;
  within = λ _. s.within;
  ends = λ first within e. says_end (sent_by side.monitor.trail) (taken_by side.monitor.trail) first x y s e;
}

-- bytes come and frames are taken
pub exchanges_heard : {W : Type 0} (least : ℕ) (x y : LinkView W) (a b : Side) → Hears refuses takes heard_by said_by 0 least x y a b → Exchanges least x y a b
exchanges_heard least x y a b h =
    let reaches = reaches_taken h.takes.frames a b h.takes.takes in
    let written = h.listens.keeps.written in
    let grown = h.takes.grown in
    record {
      passes = passes_heard refuses takes heard_by said_by 0 least x y a b h;
      shut = h.listens.keeps.shut;
      reaches = reaches;
      settings = (reaches_setup a.monitor b.monitor reaches).0;
      setup = (reaches_setup a.monitor b.monitor reaches).1;
      within = λ within. omega (arith, within, written, front_size (sent_by a.monitor.trail) (sent_by b.monitor.trail) grown);
      ends = λ first within e.
          let same = said_grown x.written (sent_by a.monitor.trail) (sent_by b.monitor.trail) within grown ∙ ap (λ n. take n (sent_by b.monitor.trail)) (sym written) in
          subst (λ fs. IsEnd y (taken_by b.monitor.trail) (first ++ fs)) same (hears_end refuses takes heard_by said_by 0 least [] (first ++ take x.written (sent_by a.monitor.trail)) x y a b h e);
    }

pub exchanges_on : {W : Type 0} (k m n : ℕ) (x y z : LinkView W) (a b c : Side) → k ≤ m + n → Exchanges m x y a b → Exchanges n y z b c → Exchanges k x z a c
exchanges_on k m n x y z a b c least p q = record {
  passes = passes_on k m n x y z least p.passes q.passes;
  shut = q.shut ∙ p.shut;
  reaches = reaches_on a.monitor b.monitor c.monitor p.reaches q.reaches;
  settings = q.settings ∙ p.settings;
  setup = q.setup ∙ p.setup;
  within = λ within. q.within (p.within within);
  ends = λ first within e. q.ends first (p.within within) (p.ends first within e);
}

-- the monitor stays, or is checked
pub exchanges_same : {W : Type 0} (x : LinkView W) (a b : Side) → b ≡ a → Exchanges 0 x x a b
exchanges_same x a b is = subst (λ s. Exchanges 0 x x a s) (sym is) (record {
  passes = passes_nothing x;
  shut = refl;
  reaches = Stays a.monitor a.monitor refl;
  settings = refl;
  setup = refl;
  within = λ within. within;
  ends = λ first within e. e;
})

pub exchanges_checked : {W : Type 0} (x : LinkView W) (a b : Side) → b ≡ record a { monitor = checking a.monitor } → Exchanges 0 x x a b
exchanges_checked x a b is =
    let setup = a.monitor.setup in
    let trail = a.monitor.trail in
    let grown = answered_sent trail (due_at setup trail) in
    let taken = answer_taken trail (due_at setup trail) in
    subst (λ s. Exchanges 0 x x a s) (sym is) (record {
      passes = passes_nothing x;
      shut = refl;
      reaches = Checks a.monitor (checking a.monitor) (Stays (checking a.monitor) (checking a.monitor) refl);
      settings = refl;
      setup = refl;
      within = λ within. omega (arith, within, front_size (sent_by trail) (sent_by (after_check setup trail)) grown);
      ends = λ first within e.
          subst (λ fs. IsEnd x fs (first ++ take x.written (sent_by (after_check setup trail)))) (sym taken)
          (subst (λ fs. IsEnd x (taken_by trail) (first ++ fs)) (said_grown x.written (sent_by trail) (sent_by (after_check setup trail)) within grown) e);
    })

due_behind : (setup : MonitorSetup) (trail : List Entry) (due : Option Frame) → due_at setup trail ≡ due → due_at setup (with_answer trail due) ≡ None
due_behind setup trail None is = is
due_behind setup trail (Some sent) is = not_some (due_at setup (trail ++ Sent sent ∷ [])) (due_after_check setup trail sent is)

-- nothing is due once a monitor is checked
pub none_due : (setup : MonitorSetup) (trail : List Entry) → due_at setup (after_check setup trail) ≡ None
none_due setup trail = due_behind setup trail (due_at setup trail) refl

-- all is said, and nothing is due
pub rests : {W : Type 0} (turn : Option Turn) (link : LinkView W) (monitor : MonitorView) → due_at monitor.setup monitor.trail ≡ None → IfNone turn (HasSaid link monitor) → IfNone turn (IsAtRest link monitor)
rests None link monitor due said = record { due = due; said = said }
rests (Some turn) link monitor due said = tt

-- a turn that does not go on counts no pieces
pub pieces_none : (turn : Turn) → goes_on turn ≡ false → pieces_of turn ≤ 0
pieces_none t.Quiet stops = absurd (cc)
pieces_none t.More stops = absurd (cc)
pieces_none t.Stopped stops = omega arith
pieces_none t.Failed stops = omega arith
pieces_none (t.Refused why) stops = omega arith
pieces_none (t.Bad fault) stops = omega arith
pieces_none t.NoMemory stops = omega arith

pub not_on : {P : Type 0} (turn : Turn) → goes_on turn ≡ false → goes_on turn ≡ true → P
not_on turn stops goes = absurd (false≢true (sym stops ∙ goes))

-- where a turn goes on, what is written and given leaves no frame whole, and nothing that waits
pub on_said : {W : Type 0} (said : List Frame) (turn : Turn) (x y : LinkView W) (side : Side) → Says said x y → goes_on turn ≡ true → Ends x side turn → Ends y side turn
on_said said t.Quiet x y side s goes e =
    (subst (λ xs. Answers y.version xs n.Part) (sym s.unread) e.0, λ tells. let told = sym s.tells ∙ tells in (s.departed told).waiting ∙ e.1 told)
on_said said t.More x y side s goes e = subst (λ xs. Answers y.version xs n.Part) (sym s.unread) e
on_said said t.Stopped x y side s goes e = absurd (cc)
on_said said t.Failed x y side s goes e = absurd (cc)
on_said said (t.Refused why) x y side s goes e = absurd (cc)
on_said said (t.Bad fault) x y side s goes e = absurd (cc)
on_said said t.NoMemory x y side s goes e = absurd (cc)

-- and then it says nothing of the monitor
pub on_aside : {W : Type 0} (turn : Turn) (x : LinkView W) (a b : Side) → goes_on turn ≡ true → Ends x a turn → Ends x b turn
on_aside t.Quiet x a b goes e = e
on_aside t.More x a b goes e = e
on_aside t.Stopped x a b goes e = absurd (cc)
on_aside t.Failed x a b goes e = absurd (cc)
on_aside (t.Refused why) x a b goes e = absurd (cc)
on_aside (t.Bad fault) x a b goes e = absurd (cc)
on_aside t.NoMemory x a b goes e = absurd (cc)

pub steady : (x y : Counts) → y ≡ x → IsSteady x y
steady x y is = record { faults = ap (λ k. k.faults) is; ends = ap (λ k. k.ends) is }

pub steady_of : (turn : Turn) (x y : Counts) → goes_on turn ≡ true → CountsTurned turn x y → IsSteady x y
steady_of t.Quiet x y goes k = k
steady_of t.More x y goes k = k
steady_of t.Stopped x y goes k = absurd (cc)
steady_of t.Failed x y goes k = absurd (cc)
steady_of (t.Refused why) x y goes k = absurd (cc)
steady_of (t.Bad fault) x y goes k = absurd (cc)
steady_of t.NoMemory x y goes k = absurd (cc)

steadies : (x y z : Counts) → IsSteady x y → IsSteady y z → IsSteady x z
steadies x y z p q = record { faults = q.faults ∙ p.faults; ends = q.ends ∙ p.ends }

-- the counts of a turn behind a part that left them
pub counts_on : (turn : Turn) (x y z : Counts) → IsSteady x y → CountsTurned turn y z → CountsTurned turn x z
counts_on t.Quiet x y z p q = steadies x y z p q
counts_on t.More x y z p q = steadies x y z p q
counts_on t.Stopped x y z p q = steadies x y z p q
counts_on t.Failed x y z p q =
    subst (λ n. HasRisen n z.faults ⊎ HasRisen x.ends z.ends) p.faults (subst (λ n. HasRisen y.faults z.faults ⊎ HasRisen n z.ends) p.ends q)
counts_on (t.Refused why) x y z p q = steadies x y z p q
counts_on (t.Bad fault) x y z p q = steadies x y z p q
counts_on t.NoMemory x y z p q = steadies x y z p q

-- a turn that goes on, and a part behind it that left the counts
pub counts_then : (turn : Turn) (x y z : Counts) → goes_on turn ≡ true → CountsTurned turn x y → IsSteady y z → CountsTurned turn x z
counts_then t.Quiet x y z goes p q = steadies x y z p q
counts_then t.More x y z goes p q = steadies x y z p q
counts_then t.Stopped x y z goes p q = absurd (cc)
counts_then t.Failed x y z goes p q = absurd (cc)
counts_then (t.Refused why) x y z goes p q = absurd (cc)
counts_then (t.Bad fault) x y z goes p q = absurd (cc)
counts_then t.NoMemory x y z goes p q = absurd (cc)

pub over : (turn : Turn) (is : Bool) → is ≡ not (goes_on turn) → is ≡ true → goes_on turn ≡ false
over turn is same holds = not_true (goes_on turn) is same holds

pub still : (turn : Turn) (is : Bool) → is ≡ not (goes_on turn) → is ≡ false → goes_on turn ≡ true
still turn is same fails = not_false (goes_on turn) is same fails

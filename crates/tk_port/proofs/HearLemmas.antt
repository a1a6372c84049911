-- What a turn says of a hearing of its link.
use Rattle.std.proofs.Common.{◌≡◌, ℕ, refl, sym, ap, subst, arith, false, inl, inr}
use Rattle.tk_frames.specs.declared.answer.Next.TheVariants as n
use Rattle.tk_frames.specs.Answer.{Answers}
use Rattle.tk_trail.specs.Readings.{is_stopped}
use Rattle.tk_trail.specs.declared.refusal.MonitorRefusal.{MonitorRefusal}
use Rattle.tk_wire.specs.Meanings.{Counts, HasRisen, raised_by}
use Rattle.tk_end.specs.Hearing.{CountsHeard, Ends as EndsHeard, Hears, TakesOne, TakesOnce, least_of}
use Rattle.tk_end.specs.Link.{LinkView}
use Rattle.tk_end.specs.declared.hearing.Heard.{Heard}
use Rattle.tk_end.specs.declared.hearing.Heard.TheVariants as h
use Rattle.tk_port.specs.Port.{EndsOne, TakesFrame, TakesUpTo}
use Rattle.tk_port.specs.Side.{heard_by, refuses, said_by, stops, takes}
use Rattle.tk_port.specs.Turn.{CountsTurned, Ends, Exchanges, pieces_of, turn_heard}
use Rattle.tk_port.specs.declared.side.Side.{Side}
use Rattle.tk_port.specs.declared.turn.Turn.{Turn}
use Rattle.tk_port.proofs.ExchangeLemmas.{exchanges_heard}

least_heard : (heard : Heard MonitorRefusal) → least_of heard ≡ pieces_of (turn_heard heard)
least_heard h.Quiet = refl
least_heard h.More = refl
least_heard h.Done = refl
least_heard h.Failed = refl
least_heard h.Ended = refl
least_heard (h.Refused why) = refl
least_heard (h.Bad fault) = refl
least_heard h.NoMemory = refl

pub exchanges_turned : {W : Type 0} (heard : Heard MonitorRefusal) (turn : Turn) (x y : LinkView W) (a b : Side) → turn ≡ turn_heard heard → Hears refuses takes heard_by said_by 0 (least_of heard) x y a b → Exchanges (pieces_of turn) x y a b
exchanges_turned heard turn x y a b is hears =
    subst (λ k. Exchanges (pieces_of k) x y a b) (sym is)
    (subst (λ k. Exchanges k x y a b) (least_heard heard) (exchanges_heard (least_of heard) x y a b hears))

ends_of : {W : Type 0} (heard : Heard MonitorRefusal) (link : LinkView W) (side : Side) → EndsHeard refuses stops 0 link side heard → (heard ≡ h.More → Answers link.version link.unread n.Part) → Ends link side (turn_heard heard)
ends_of h.Quiet link side e part = e
ends_of h.More link side e part = part refl
ends_of h.Done link side e part = e
ends_of h.Failed link side e part = tt
ends_of h.Ended link side e part = tt
ends_of (h.Refused why) link side e part = e
ends_of (h.Bad fault) link side e part = e
ends_of h.NoMemory link side e part = tt

pub ends_turned : {W : Type 0} (heard : Heard MonitorRefusal) (turn : Turn) (link : LinkView W) (side : Side) → turn ≡ turn_heard heard → EndsHeard refuses stops 0 link side heard → (heard ≡ h.More → Answers link.version link.unread n.Part) → Ends link side turn
ends_turned heard turn link side is e part = subst (Ends link side) (sym is) (ends_of heard link side e part)

pub risen : (x y : ℕ) → y ≡ raised_by 1 x → HasRisen x y
risen x y is = λ less. omega (arith, is, less)

counts_of : (heard : Heard MonitorRefusal) (x y : Counts) → CountsHeard heard x y → CountsTurned (turn_heard heard) x y
counts_of h.Quiet x y k = record { faults = k.0; ends = k.1 }
counts_of h.More x y k = record { faults = k.0; ends = k.1 }
counts_of h.Done x y k = record { faults = k.0; ends = k.1 }
counts_of h.Failed x y k = inl (risen x.faults y.faults k.0)
counts_of h.Ended x y k = inr (risen x.ends y.ends k.1)
counts_of (h.Refused why) x y k = record { faults = k.0; ends = k.1 }
counts_of (h.Bad fault) x y k = record { faults = k.0; ends = k.1 }
counts_of h.NoMemory x y k = record { faults = k.0; ends = k.1 }

pub counts_turned : (heard : Heard MonitorRefusal) (turn : Turn) (x y : Counts) → turn ≡ turn_heard heard → CountsHeard heard x y → CountsTurned turn x y
counts_turned heard turn x y is k = subst (λ k. CountsTurned k x y) (sym is) (counts_of heard x y k)

-- the same of a hearing of one frame
takes_frame : (a b : Side) → TakesOne refuses takes 0 a b → TakesFrame a.monitor b.monitor
takes_frame a b t = record { frame = t.frame; accepted = t.accepted; taken = ap (λ s. s.monitor) t.taken }

takes_of : {W : Type 0} (heard : Heard MonitorRefusal) (link : LinkView W) (a b : Side) → TakesOnce refuses takes 0 a b heard → (heard ≡ h.More → is_stopped b.monitor.trail ≡ false) → EndsHeard refuses stops 0 link b heard → TakesUpTo (turn_heard heard) a.monitor b.monitor
takes_of h.Quiet link a b t goes e = ap (λ s. s.monitor) t
takes_of h.More link a b t goes e = (takes_frame a b t, goes refl)
takes_of h.Done link a b t goes e = (takes_frame a b t, e)
takes_of h.Failed link a b t goes e = ap (λ s. s.monitor) t
takes_of h.Ended link a b t goes e = ap (λ s. s.monitor) t
takes_of (h.Refused why) link a b t goes e = ap (λ s. s.monitor) t
takes_of (h.Bad fault) link a b t goes e = ap (λ s. s.monitor) t
takes_of h.NoMemory link a b t goes e = ap (λ s. s.monitor) t

pub takes_turned : {W : Type 0} (heard : Heard MonitorRefusal) (turn : Turn) (link : LinkView W) (a b : Side) → turn ≡ turn_heard heard → TakesOnce refuses takes 0 a b heard → (heard ≡ h.More → is_stopped b.monitor.trail ≡ false) → EndsHeard refuses stops 0 link b heard → TakesUpTo turn a.monitor b.monitor
takes_turned heard turn link a b is t goes e = subst (λ k. TakesUpTo k a.monitor b.monitor) (sym is) (takes_of heard link a b t goes e)

one_of : {W : Type 0} (heard : Heard MonitorRefusal) (link : LinkView W) (side : Side) → EndsHeard refuses stops 0 link side heard → EndsOne link side.monitor (turn_heard heard)
one_of h.Quiet link side e = e
one_of h.More link side e = tt
one_of h.Done link side e = tt
one_of h.Failed link side e = tt
one_of h.Ended link side e = tt
one_of (h.Refused why) link side e = e
one_of (h.Bad fault) link side e = e
one_of h.NoMemory link side e = tt

pub one_turned : {W : Type 0} (heard : Heard MonitorRefusal) (turn : Turn) (link : LinkView W) (side : Side) → turn ≡ turn_heard heard → EndsHeard refuses stops 0 link side heard → EndsOne link side.monitor turn
one_turned heard turn link side is e = subst (EndsOne link side.monitor) (sym is) (one_of heard link side e)

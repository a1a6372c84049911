use Rattle.std.proofs.Common.{◌≡◌, ◌∙◌, List, Option, ap, arith, inl, inr, refl, sym}
use Rattle.std.proofs.lemmas.Bool.{false≢true}
use Rattle.tk_end.specs.Link.{LinkView}
use Rattle.tk_hub.specs.Seats.{SeatsView}
use Rattle.tk_hub.proofs.LobbyLemmas.{open_seated}
use Rattle.tk_hub.proofs.lobby.Lobby.welcome.Goals as goal

-- the seat is free, and the link of the guest takes it
pub returns-then-is_free-clause-answer : goal.returns-then-is_free-clause-answer
returns-then-is_free-clause-answer g c =
    inl (
      c.is_free.ensures.0 c.if-is_free.true,
      record {
        strangers = refl;
        link = c.into_link.result;
        goes_on = c.into_link.ensures.goes_on;
        greeted = c.into_link.ensures.greeted c.args.seats.now.run c.args.guest.mon c.requires.greeted;
        links = ap (λ s. s.links) c.seat.ensures.value;
      },
    )

pub into_link-requires : goal.into_link-requires
into_link-requires g c = c.requires.version

pub seat-requires-clause-free : goal.seat-requires-clause-free
seat-requires-clause-free g c = c.is_free.ensures.0 c.if-is_free.true

pub seat-requires-clause-greeted : goal.seat-requires-clause-greeted
seat-requires-clause-greeted g c = c.into_link.ensures.greeted c.args.seats.now.run c.args.guest.mon c.requires.greeted

pub seat-requires-clause-unsaid : goal.seat-requires-clause-unsaid
seat-requires-clause-unsaid g c = c.into_link.ensures.goes_on.written

pub returns-then-is_free-clause-held : goal.returns-then-is_free-clause-held
returns-then-is_free-clause-held g c = refl

pub returns-then-is_free-clause-more : goal.returns-then-is_free-clause-more
returns-then-is_free-clause-more g c = omega arith

pub returns-then-is_free-clause-rest : goal.returns-then-is_free-clause-rest
returns-then-is_free-clause-rest g c =
    let Made : List (Option (LinkView g.row.W.Denot)) → SeatsView g.row.W.Denot = λ links. record c.args.seats.now { links = links } in
    c.seat.ensures.value ∙ sym (ap (λ s. Made s.links) c.seat.ensures.value)

pub returns-then-is_free-clause-kept : goal.returns-then-is_free-clause-kept
returns-then-is_free-clause-kept g c = λ _. c.seat.ensures.kept

pub returns-then-is_free-clause-going : goal.returns-then-is_free-clause-going
returns-then-is_free-clause-going g c = open_seated c.args.guest.mon.0 c.args.seats.now c.seat.new.self c.into_link.result (c.is_free.ensures.0 c.if-is_free.true) c.seat.ensures.kept c.seat.ensures.value c.into_link.ensures.goes_on.shut

-- it is taken, or there is none, and the guest is turned away
pub returns-else-is_free-clause-answer : goal.returns-else-is_free-clause-answer
returns-else-is_free-clause-answer g c =
    inr (
      λ free. false≢true (sym c.if-is_free.false ∙ c.is_free.ensures.1 free),
      record { strangers = ap (λ l. l.strangers) c.turn_away.ensures.counts; links = refl },
    )

pub returns-else-is_free-clause-held : goal.returns-else-is_free-clause-held
returns-else-is_free-clause-held g c = ap (λ l. l.held) c.turn_away.ensures.counts

pub returns-else-is_free-clause-more : goal.returns-else-is_free-clause-more
returns-else-is_free-clause-more g c = c.turn_away.ensures.more

pub returns-else-is_free-clause-rest : goal.returns-else-is_free-clause-rest
returns-else-is_free-clause-rest g c = refl

pub returns-else-is_free-clause-kept : goal.returns-else-is_free-clause-kept
returns-else-is_free-clause-kept g c = λ kept. kept

pub returns-else-is_free-clause-going : goal.returns-else-is_free-clause-going
returns-else-is_free-clause-going g c = λ each. each

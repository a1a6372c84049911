use Rattle.std.proofs.Common.{◌-◌, ◌<◌, Bool, length, Some, None, refl, sym, ap, ◌∙◌, arith}
use Rattle.std.specs.Vec.{with_item}
use Rattle.std.proofs.lemmas.Option.{slice_get_read}
use Rattle.tk_coord.specs.declared.round.Round.{Round}
use Rattle.tk_coord.specs.declared.state.State.{State}
use Rattle.tk_coord.proofs.TakeLemmas.{holds_got}
use Rattle.tk_coord.proofs.state.State.take.Goals as goal

pub returns-in-Some : goal.returns-in-Some
returns-in-Some c = λ s j frame tells m h.
    let old : State = c.args.self.now in
    let place = c.args.mon.0 - 1 in
    let within : place < length old.peers.items = omega (arith, c.requires.some, c.requires.peer) in
    let round : Round = record old.round { waiting = c.still_waits-self.result } in
    let new : State = record old { peers = with_item old.peers place c.tell.new.peer; round = round; gathered = with_item old.gathered place c.in-Some.report } in
    holds_got s j c.args.mon frame c.args.statement old new tells c.requires.some c.requires.report (record {
      board = refl;
      peer = c.index_mut.result.now;
      was = slice_get_read old.peers.items (length old.peers.items) place c.index_mut.result.now refl within c.index_mut.ensures.value;
      now = c.tell.new.peer;
      tells = c.tell.ensures.peer;
      peers = refl;
      round = ap (λ (b : Bool). record old.round { waiting = b }) c.still_waits-self.ensures;
      values = Some c.in-Some.report;
      are = sym c.tell.ensures.values ∙ c.in-Some.is;
      gathered = refl;
    }) h

pub returns-in_default : goal.returns-in_default
returns-in_default c = λ s j frame tells m h.
    let old : State = c.args.self.now in
    let place = c.args.mon.0 - 1 in
    let within : place < length old.peers.items = omega (arith, c.requires.some, c.requires.peer) in
    let round : Round = record old.round { waiting = c.still_waits-self.result } in
    let new : State = record old { peers = with_item old.peers place c.tell.new.peer; round = round } in
    holds_got s j c.args.mon frame c.args.statement old new tells c.requires.some c.requires.report (record {
      board = refl;
      peer = c.index_mut.result.now;
      was = slice_get_read old.peers.items (length old.peers.items) place c.index_mut.result.now refl within c.index_mut.ensures.value;
      now = c.tell.new.peer;
      tells = c.tell.ensures.peer;
      peers = refl;
      round = ap (λ (b : Bool). record old.round { waiting = b }) c.still_waits-self.ensures;
      values = None;
      are = sym c.tell.ensures.values ∙ c.in_default.is;
      gathered = refl;
    }) h

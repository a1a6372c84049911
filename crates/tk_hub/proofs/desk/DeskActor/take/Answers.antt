use Rattle.std.proofs.Common.{ap, ◌∙◌, sym, subst}
use Rattle.tk_base.specs.History.{IsFront}
use Rattle.tk_journal.specs.Legal.{turn_of}
use Rattle.tk_journal.specs.Links.{frames_from, frames_to}
use Rattle.tk_journal.specs.Refusal.{refusal_of}
use Rattle.tk_journal.specs.declared.noted.Noted.TheVariants.{Got}
use Rattle.tk_hub.proofs.DeskLemmas.{heard_after, never_memory, said_after, wants_memory}
use Rattle.tk_hub.proofs.desk.DeskActor.take.Goals as goal

pub returns-in-Ok-clause-heard : goal.returns-in-Ok-clause-heard
returns-in-Ok-clause-heard c =
    let k = c.args.self.now.coordinator in
    ap (frames_from c.args.peer.0) c.in-Ok.ensures.turn ∙ heard_after k.settings k.journal c.args.peer.0 c.args.frame c.requires.some_monitor c.requires.monitor c.in-Ok.ensures.ok

pub returns-in-Ok-clause-said : goal.returns-in-Ok-clause-said
returns-in-Ok-clause-said c =
    let k = c.args.self.now.coordinator in
    subst (λ j. IsFront (frames_to c.args.peer.0 k.journal) (frames_to c.args.peer.0 j)) (sym c.in-Ok.ensures.turn) (said_after k.journal (turn_of k.settings k.journal (Got c.args.peer c.args.frame)) c.args.peer.0)

pub returns-in-Err-NoMemory-default-clause-answer : goal.returns-in-Err-NoMemory-default-clause-answer
returns-in-Err-NoMemory-default-clause-answer c =
    let k = c.args.self.now.coordinator in
    let back = c.in-Err-NoMemory-default in
    wants_memory (refusal_of k.settings k.journal c.args.peer.0 c.args.frame) back.field-0-0 c.args.frame back.frame back.ensures.refused (never_memory k.settings k.journal c.args.peer.0 c.args.frame) back.field-0-0-is back.ensures.err.0

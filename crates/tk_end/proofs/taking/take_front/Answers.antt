use Rattle.std.proofs.Common.{ap, ◌∙◌, subst, Err, Ok, Some, ◌++◌}
use Rattle.tk_frames.specs.Spelling.{spelling}
use Rattle.tk_end.specs.Actor.{AnswersTake}
use Rattle.tk_end.specs.Inbox.{Leaves, Reads}
use Rattle.tk_end.proofs.ActorLemmas.{is_refused, is_declined}
use Rattle.tk_end.proofs.HearingLemmas.{stops_refused}
use Rattle.tk_end.proofs.ReadingLemmas.{put_back}
use Rattle.tk_end.proofs.taking.take_front.Goals as goal

pub returns-in-Err-Refused-clause-stops : goal.returns-in-Err-Refused-clause-stops
returns-in-Err-Refused-clause-stops g c =
    let old = c.args.inbox.now in
    let found = c.in-Ok-Whole in
    let back = c.in-Err-Refused in
    let leaves : Leaves old.version found.frame old.unread c.read.new.self.unread = subst (λ r. Reads (Ok r) old.version old.unread c.read.new.self.unread) found.field-0-is found.ensures.answer in
    let is = is_refused (g.A.Actor.refusal_of c.args.peer.0 found.frame c.args.actor.now) found.frame back.frame back.why (subst (λ d. AnswersTake (g.A.Actor.refusal_of c.args.peer.0 found.frame c.args.actor.now) found.frame (Err d)) back.field-0-is back.ensures.answer) in
    let unread = c.put_back.ensures.unread ∙ ap (λ v. spelling v back.frame ++ c.read.new.self.unread) c.read.ensures.version in
    stops_refused g.A.Actor.refusal_of c.args.peer.0 old.version _ found.frame c.read.new.self.unread old.unread _ _ c.args.actor.now _ back.why (c.put_back.ensures.front ∙ ap Some is.1) leaves is.0 (c.put_back.ensures.version ∙ c.read.ensures.version) (put_back old.version found.frame back.frame old.unread c.read.new.self.unread _ leaves is.1 unread) back.ensures.err

pub returns-in-Err-Refused-clause-same : goal.returns-in-Err-Refused-clause-same
returns-in-Err-Refused-clause-same g c =
    let old = c.args.inbox.now in
    let found = c.in-Ok-Whole in
    let back = c.in-Err-Refused in
    let leaves : Leaves old.version found.frame old.unread c.read.new.self.unread = subst (λ r. Reads (Ok r) old.version old.unread c.read.new.self.unread) found.field-0-is found.ensures.answer in
    let is = is_refused (g.A.Actor.refusal_of c.args.peer.0 found.frame c.args.actor.now) found.frame back.frame back.why (subst (λ d. AnswersTake (g.A.Actor.refusal_of c.args.peer.0 found.frame c.args.actor.now) found.frame (Err d)) back.field-0-is back.ensures.answer) in
    let unread = c.put_back.ensures.unread ∙ ap (λ v. spelling v back.frame ++ c.read.new.self.unread) c.read.ensures.version in
    (put_back old.version found.frame back.frame old.unread c.read.new.self.unread _ leaves is.1 unread, back.ensures.err)

pub returns-in-Err-NoMemory-clause-same : goal.returns-in-Err-NoMemory-clause-same
returns-in-Err-NoMemory-clause-same g c =
    let old = c.args.inbox.now in
    let found = c.in-Ok-Whole in
    let back = c.in-Err-NoMemory in
    let leaves : Leaves old.version found.frame old.unread c.read.new.self.unread = subst (λ r. Reads (Ok r) old.version old.unread c.read.new.self.unread) found.field-0-is found.ensures.answer in
    let is = is_declined (g.A.Actor.refusal_of c.args.peer.0 found.frame c.args.actor.now) found.frame back.frame (subst (λ d. AnswersTake (g.A.Actor.refusal_of c.args.peer.0 found.frame c.args.actor.now) found.frame (Err d)) back.field-0-is back.ensures.answer) in
    let unread = c.put_back-in-Err-NoMemory.ensures.unread ∙ ap (λ v. spelling v back.frame ++ c.read.new.self.unread) c.read.ensures.version in
    (put_back old.version found.frame back.frame old.unread c.read.new.self.unread _ leaves is unread, back.ensures.err)

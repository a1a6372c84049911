use Rattle.std.proofs.Common.{◌∷◌, [], ◌++◌, ap, subst, ◌∙◌}
use Rattle.std.proofs.lemmas.Result.{err_from_is_err_and, on_ok_weaker}
use Rattle.tk_frames.specs.declared.frame.Frame.{Frame}
use Rattle.tk_frames.specs.Spelling.{spelling}
use Rattle.tk_trace.specs.Spelling.{IsFrame, number}
use Rattle.tk_trace.specs.Writing.{CanBeNoted}
use Rattle.tk_trace.proofs.WritingLemmas.{not_ok, out_3}
use Rattle.tk_trace.proofs.writing.journal.noted.Goals as goal

pub returns-in_err-push-in-Got-clause-bytes : goal.returns-in_err-push-in-Got-clause-bytes
returns-in_err-push-in-Got-clause-bytes c =
    let p = err_from_is_err_and c.from_residual.result c.from_residual.ensures.1 in
    not_ok c.from_residual.result p.0 _ p.1

pub returns-in_err-number_u32-in-Got-clause-bytes : goal.returns-in_err-number_u32-in-Got-clause-bytes
returns-in_err-number_u32-in-Got-clause-bytes c =
    let p = err_from_is_err_and c.from_residual-in_err-number_u32-in-Got.result c.from_residual-in_err-number_u32-in-Got.ensures.1 in
    not_ok c.from_residual-in_err-number_u32-in-Got.result p.0 _ p.1

pub returns-in_err-push-in-Got-clause-within : goal.returns-in_err-push-in-Got-clause-within
returns-in_err-push-in-Got-clause-within c =
    let p = err_from_is_err_and c.from_residual.result c.from_residual.ensures.1 in
    not_ok c.from_residual.result p.0 _ p.1

pub returns-in_err-number_u32-in-Got-clause-within : goal.returns-in_err-number_u32-in-Got-clause-within
returns-in_err-number_u32-in-Got-clause-within c =
    let p = err_from_is_err_and c.from_residual-in_err-number_u32-in-Got.result c.from_residual-in_err-number_u32-in-Got.ensures.1 in
    not_ok c.from_residual-in_err-number_u32-in-Got.result p.0 _ p.1

pub returns-in_ok-number_u32-in-Got-clause-bytes : goal.returns-in_ok-number_u32-in-Got-clause-bytes
returns-in_ok-number_u32-in-Got-clause-bytes c =
    let before = c.number_u32.new.out.items in
    on_ok_weaker c.frame.result (λ wrote. rw c.in-Got.is (out_3 c.args.out.now.items c.push.new.self.items before c.frame.new.out.items (1 ∷ []) (number 4 c.in-Got.mon.0) (spelling 1 c.in-Got.kept) c.in_ok-push-in-Got.ensures.items c.in_ok-number_u32-in-Got.ensures.bytes (wrote ∙ ap (λ (f : Frame). before ++ spelling 1 f) c.get.ensures))) c.frame.ensures.bytes

pub returns-in_ok-number_u32-in-Got-clause-within : goal.returns-in_ok-number_u32-in-Got-clause-within
returns-in_ok-number_u32-in-Got-clause-within c =
    let can = subst (CanBeNoted c.args.monitors) c.in-Got.is c.requires in
    on_ok_weaker c.frame.result (λ is. rw c.in-Got.is (can.0, subst IsFrame c.get.ensures is)) c.frame.ensures.within

pub returns-in_err-push-in-Sent-clause-bytes : goal.returns-in_err-push-in-Sent-clause-bytes
returns-in_err-push-in-Sent-clause-bytes c =
    let p = err_from_is_err_and c.from_residual-in_err-push-in-Sent.result c.from_residual-in_err-push-in-Sent.ensures.1 in
    not_ok c.from_residual-in_err-push-in-Sent.result p.0 _ p.1

pub returns-in_err-number_u32-in-Sent-clause-bytes : goal.returns-in_err-number_u32-in-Sent-clause-bytes
returns-in_err-number_u32-in-Sent-clause-bytes c =
    let p = err_from_is_err_and c.from_residual-in_err-number_u32-in-Sent.result c.from_residual-in_err-number_u32-in-Sent.ensures.1 in
    not_ok c.from_residual-in_err-number_u32-in-Sent.result p.0 _ p.1

pub returns-in_err-push-in-Sent-clause-within : goal.returns-in_err-push-in-Sent-clause-within
returns-in_err-push-in-Sent-clause-within c =
    let p = err_from_is_err_and c.from_residual-in_err-push-in-Sent.result c.from_residual-in_err-push-in-Sent.ensures.1 in
    not_ok c.from_residual-in_err-push-in-Sent.result p.0 _ p.1

pub returns-in_err-number_u32-in-Sent-clause-within : goal.returns-in_err-number_u32-in-Sent-clause-within
returns-in_err-number_u32-in-Sent-clause-within c =
    let p = err_from_is_err_and c.from_residual-in_err-number_u32-in-Sent.result c.from_residual-in_err-number_u32-in-Sent.ensures.1 in
    not_ok c.from_residual-in_err-number_u32-in-Sent.result p.0 _ p.1

pub returns-in_ok-number_u32-in-Sent-clause-bytes : goal.returns-in_ok-number_u32-in-Sent-clause-bytes
returns-in_ok-number_u32-in-Sent-clause-bytes c =
    let before = c.number_u32-in-Sent.new.out.items in
    on_ok_weaker c.frame-in-Sent.result (λ wrote. rw c.in-Sent.is (out_3 c.args.out.now.items c.push-in-Sent.new.self.items before c.frame-in-Sent.new.out.items (2 ∷ []) (number 4 c.in-Sent.mon.0) (spelling 1 c.in-Sent.kept) c.in_ok-push-in-Sent.ensures.items c.in_ok-number_u32-in-Sent.ensures.bytes (wrote ∙ ap (λ (f : Frame). before ++ spelling 1 f) c.get-in-Sent.ensures))) c.frame-in-Sent.ensures.bytes

pub returns-in_ok-number_u32-in-Sent-clause-within : goal.returns-in_ok-number_u32-in-Sent-clause-within
returns-in_ok-number_u32-in-Sent-clause-within c =
    let can = subst (CanBeNoted c.args.monitors) c.in-Sent.is c.requires in
    on_ok_weaker c.frame-in-Sent.result (λ is. rw c.in-Sent.is (can.0, subst IsFrame c.get-in-Sent.ensures is)) c.frame-in-Sent.ensures.within

pub returns-in_err-push-in-Published-clause-bytes : goal.returns-in_err-push-in-Published-clause-bytes
returns-in_err-push-in-Published-clause-bytes c =
    let p = err_from_is_err_and c.from_residual-in_err-push-in-Published.result c.from_residual-in_err-push-in-Published.ensures.1 in
    not_ok c.from_residual-in_err-push-in-Published.result p.0 _ p.1

pub returns-in_err-push-in-Published-clause-within : goal.returns-in_err-push-in-Published-clause-within
returns-in_err-push-in-Published-clause-within c =
    let p = err_from_is_err_and c.from_residual-in_err-push-in-Published.result c.from_residual-in_err-push-in-Published.ensures.1 in
    not_ok c.from_residual-in_err-push-in-Published.result p.0 _ p.1

pub returns-in_err-push-in-Tuned-clause-bytes : goal.returns-in_err-push-in-Tuned-clause-bytes
returns-in_err-push-in-Tuned-clause-bytes c =
    let p = err_from_is_err_and c.from_residual-in_err-push-in-Tuned.result c.from_residual-in_err-push-in-Tuned.ensures.1 in
    not_ok c.from_residual-in_err-push-in-Tuned.result p.0 _ p.1

pub returns-in_err-push-in-Tuned-clause-within : goal.returns-in_err-push-in-Tuned-clause-within
returns-in_err-push-in-Tuned-clause-within c =
    let p = err_from_is_err_and c.from_residual-in_err-push-in-Tuned.result c.from_residual-in_err-push-in-Tuned.ensures.1 in
    not_ok c.from_residual-in_err-push-in-Tuned.result p.0 _ p.1

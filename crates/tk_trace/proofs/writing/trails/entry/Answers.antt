use Rattle.std.proofs.Common.{◌∷◌, [], ◌++◌, ap, subst, ◌∙◌}
use Rattle.std.proofs.lemmas.Result.{err_from_is_err_and, on_ok_weaker}
use Rattle.tk_frames.specs.declared.frame.Frame.{Frame}
use Rattle.tk_frames.specs.Spelling.{spelling}
use Rattle.tk_trace.specs.Spelling.{IsFrame}
use Rattle.tk_trace.proofs.WritingLemmas.{not_ok, out_2}
use Rattle.tk_trace.proofs.writing.trails.entry.Goals as goal

pub returns-in_err-push-in-Raised-clause-bytes : goal.returns-in_err-push-in-Raised-clause-bytes
returns-in_err-push-in-Raised-clause-bytes c =
    let p = err_from_is_err_and c.from_residual.result c.from_residual.ensures.1 in
    not_ok c.from_residual.result p.0 _ p.1

pub returns-in_err-push-in-Raised-clause-within : goal.returns-in_err-push-in-Raised-clause-within
returns-in_err-push-in-Raised-clause-within c =
    let p = err_from_is_err_and c.from_residual.result c.from_residual.ensures.1 in
    not_ok c.from_residual.result p.0 _ p.1

pub returns-in_err-push-in-Took-clause-bytes : goal.returns-in_err-push-in-Took-clause-bytes
returns-in_err-push-in-Took-clause-bytes c =
    let p = err_from_is_err_and c.from_residual-in_err-push-in-Took.result c.from_residual-in_err-push-in-Took.ensures.1 in
    not_ok c.from_residual-in_err-push-in-Took.result p.0 _ p.1

pub returns-in_err-push-in-Took-clause-within : goal.returns-in_err-push-in-Took-clause-within
returns-in_err-push-in-Took-clause-within c =
    let p = err_from_is_err_and c.from_residual-in_err-push-in-Took.result c.from_residual-in_err-push-in-Took.ensures.1 in
    not_ok c.from_residual-in_err-push-in-Took.result p.0 _ p.1

pub returns-in_err-push-in-Sent-clause-bytes : goal.returns-in_err-push-in-Sent-clause-bytes
returns-in_err-push-in-Sent-clause-bytes c =
    let p = err_from_is_err_and c.from_residual-in_err-push-in-Sent.result c.from_residual-in_err-push-in-Sent.ensures.1 in
    not_ok c.from_residual-in_err-push-in-Sent.result p.0 _ p.1

pub returns-in_err-push-in-Sent-clause-within : goal.returns-in_err-push-in-Sent-clause-within
returns-in_err-push-in-Sent-clause-within c =
    let p = err_from_is_err_and c.from_residual-in_err-push-in-Sent.result c.from_residual-in_err-push-in-Sent.ensures.1 in
    not_ok c.from_residual-in_err-push-in-Sent.result p.0 _ p.1

pub returns-in_ok-push-in-Took-clause-bytes : goal.returns-in_ok-push-in-Took-clause-bytes
returns-in_ok-push-in-Took-clause-bytes c =
    let before = c.push-in-Took.new.self.items in
    on_ok_weaker c.frame.result (λ wrote. rw c.in-Took.is (out_2 c.args.out.now.items before c.frame.new.out.items (2 ∷ []) (spelling 1 c.in-Took.kept) c.in_ok-push-in-Took.ensures.items (wrote ∙ ap (λ (f : Frame). before ++ spelling 1 f) c.get.ensures))) c.frame.ensures.bytes

pub returns-in_ok-push-in-Took-clause-within : goal.returns-in_ok-push-in-Took-clause-within
returns-in_ok-push-in-Took-clause-within c = on_ok_weaker c.frame.result (λ is. rw c.in-Took.is (subst IsFrame c.get.ensures is)) c.frame.ensures.within

pub returns-in_ok-push-in-Sent-clause-bytes : goal.returns-in_ok-push-in-Sent-clause-bytes
returns-in_ok-push-in-Sent-clause-bytes c =
    let before = c.push-in-Sent.new.self.items in
    on_ok_weaker c.frame-in-Sent.result (λ wrote. rw c.in-Sent.is (out_2 c.args.out.now.items before c.frame-in-Sent.new.out.items (3 ∷ []) (spelling 1 c.in-Sent.kept) c.in_ok-push-in-Sent.ensures.items (wrote ∙ ap (λ (f : Frame). before ++ spelling 1 f) c.get-in-Sent.ensures))) c.frame-in-Sent.ensures.bytes

pub returns-in_ok-push-in-Sent-clause-within : goal.returns-in_ok-push-in-Sent-clause-within
returns-in_ok-push-in-Sent-clause-within c = on_ok_weaker c.frame-in-Sent.result (λ is. rw c.in-Sent.is (subst IsFrame c.get-in-Sent.ensures is)) c.frame-in-Sent.ensures.within

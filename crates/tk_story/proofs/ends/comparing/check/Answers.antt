use Rattle.std.proofs.Common.{◌≡◌, ◌+◌, length, refl, sym, ap, ◌∙◌, subst, arith, inl, inr}
use Rattle.std.specs.Prelude.{Err, slice_get}
use Rattle.std.proofs.lemmas.Bool.{cases_lt}
use Rattle.std.proofs.lemmas.Option.{slice_get_read, slice_get_within, same_Some}
use Rattle.std.proofs.lemmas.Result.{err_from_is_err_and}
use Rattle.tk_base.specs.Settings.{Setup}
use Rattle.tk_trail.specs.Legal.{IsLegal}
use Rattle.tk_story.specs.Comparing.{Finds}
use Rattle.tk_story.specs.Ends.{IsOrdered, kept_by}
use Rattle.tk_story.specs.declared.ends.difference.Direction.TheVariants.{UpLink, DownLink}
use Rattle.tk_story.specs.declared.ends.mon_end.MonEnd.{MonEnd}
use Rattle.tk_story.proofs.JoiningLemmas.{all_ordered, before_more, down_of, tells_down, tells_up, up_of}
use Rattle.tk_story.proofs.ends.comparing.check.Goals as goal

pub returns-in_err-check_up-clause-err : goal.returns-in_err-check_up-clause-err
returns-in_err-check_up-clause-err c =
    let coordinator = c.args.ends.now.coordinator in
    let ends = c.args.ends.now.monitors.items in
    let j = c.loop-j.j in
    let fault = c.in_err-check_up.field-0.0 in
    let size = c.requires in
    let count = c.monitors-j-end.ensures.value in
    let same = ap (λ (s : Setup). s.monitors) c.settings.ensures in
    let test = c.loop-j-test.true in
    let at = slice_get_read ends (length ends) j c.index-end.result.now refl (omega (arith, size, count, same, test)) c.index-end.ensures in
    let p = err_from_is_err_and c.from_residual.result c.from_residual.ensures.1 in
    rw (p.1, p.2)
    (tells_up (kept_by coordinator ends) j (record { 0 = j + 1 }) fault refl (omega (arith, count, same, test)) c.loop-j.invariant.before
    (subst (λ link. Finds (record { 0 = j + 1 }) UpLink link (Err fault)) (up_of coordinator ends j c.index-end.result.now at) c.in_err-check_up.ensures))

pub returns-in_err-check_down-clause-err : goal.returns-in_err-check_down-clause-err
returns-in_err-check_down-clause-err c =
    let coordinator = c.args.ends.now.coordinator in
    let ends = c.args.ends.now.monitors.items in
    let j = c.loop-j.j in
    let fault = c.in_err-check_down.field-0.0 in
    let size = c.requires in
    let count = c.monitors-j-end.ensures.value in
    let same = ap (λ (s : Setup). s.monitors) c.settings.ensures in
    let test = c.loop-j-test.true in
    let at = slice_get_read ends (length ends) j c.index-end.result.now refl (omega (arith, size, count, same, test)) c.index-end.ensures in
    let p = err_from_is_err_and c.from_residual-in_err-check_down.result c.from_residual-in_err-check_down.ensures.1 in
    rw (p.1, p.2)
    (tells_down (kept_by coordinator ends) j (record { 0 = j + 1 }) fault refl (omega (arith, count, same, test)) (subst IsOrdered (up_of coordinator ends j c.index-end.result.now at) c.in_ok-check_up.ensures) c.loop-j.invariant.before
    (subst (λ link. Finds (record { 0 = j + 1 }) DownLink link (Err fault)) (down_of coordinator ends j c.index-end.result.now at) c.in_err-check_down.ensures.found))

pub loop-j-preserved : goal.loop-j-preserved
loop-j-preserved c =
    let coordinator = c.args.ends.now.coordinator in
    let ends = c.args.ends.now.monitors.items in
    let j = c.loop-j.j in
    let end = c.index-end.result.now in
    let size = c.requires in
    let count = c.monitors-j-end.ensures.value in
    let same = ap (λ (s : Setup). s.monitors) c.settings.ensures in
    let test = c.loop-j-test.true in
    let at = slice_get_read ends (length ends) j end refl (omega (arith, size, count, same, test)) c.index-end.ensures in
    record {
      before = before_more (kept_by coordinator ends) j (subst IsOrdered (up_of coordinator ends j end at) c.in_ok-check_up.ensures) (subst IsOrdered (down_of coordinator ends j end at) c.in_ok-check_down.ensures.found) c.loop-j.invariant.before;
      legal = λ k e less is. elim (cases_lt k j) [
        | inl lower ↦ c.loop-j.invariant.legal k e lower is
        | inr not' ↦
            let last : j ≡ k = omega (arith, not', less) in
            let alike : end ≡ e = same_Some end e (sym at ∙ ap (slice_get ends) last ∙ is) in
            subst (λ (x : MonEnd). IsLegal x.monitor.setup x.monitor.trail) alike c.in_ok-check_down.ensures.legal
      ];
    }

pub returns-clause-legal : goal.returns-clause-legal
returns-clause-legal c = λ k e is.
    let size = c.requires in
    let count = c.monitors-j-end.ensures.value in
    let same = ap (λ (s : Setup). s.monitors) c.settings.ensures in
    let past = c.loop-j-test.false in
    let within = slice_get_within c.args.ends.now.monitors.items k e is in
    c.loop-j.invariant.legal k e (omega (arith, size, count, same, past, within)) is

pub returns-clause-ordered : goal.returns-clause-ordered
returns-clause-ordered c =
    let count = c.monitors-j-end.ensures.value in
    let same = ap (λ (s : Setup). s.monitors) c.settings.ensures in
    let past = c.loop-j-test.false in
    all_ordered (kept_by c.args.ends.now.coordinator c.args.ends.now.monitors.items) c.loop-j.j (omega (arith, count, same, past)) c.loop-j.invariant.before

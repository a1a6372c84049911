use Rattle.std.proofs.Common.{◌≤◌, ℕ, ℤ, List, All, length, sym, subst, ap, ◌∙◌}
use Rattle.tk_input.specs.Judged.{Assigned, logs_by_monitor}
use Rattle.tk_input.specs.Logs.{IsObject}
use Rattle.tk_multi.proofs.LogsLemmas.{memory_alone, parts_lengths, parts_monitors, parts_objects, seen_made}
use Rattle.tk_multi.proofs.watched.logs_for.Goals as goal

pub new-requires-clause-monitors : goal.new-requires-clause-monitors
new-requires-clause-monitors c =
    subst (λ (l : Assigned). All (λ p. (1 ≤ p.0.0) × (p.0.0 ≤ 64)) l) (sym c.in_ok-parts.ensures.parts) (parts_monitors c.args.watch.now c.args.logs.now c.in_ok-parts.ensures.gathered.limits)

pub new-requires-clause-objects : goal.new-requires-clause-objects
new-requires-clause-objects c =
    subst (λ (l : Assigned). All (λ p. All (λ x. IsObject c.args.objects x.0) p.1) l) (sym c.in_ok-parts.ensures.parts) (parts_objects c.args.watch.now c.args.objects c.args.logs.now c.requires)

pub new-requires-clause-lengths : goal.new-requires-clause-lengths
new-requires-clause-lengths c =
    subst (λ (l : Assigned). All (λ p. length p.1 ≤ 1000000) l) (sym c.in_ok-parts.ensures.parts) (parts_lengths c.args.watch.now c.args.logs.now c.in_ok-parts.ensures.gathered.limits)

pub of_logs-requires : goal.of_logs-requires
of_logs-requires c = memory_alone c.args.watch.now c.args.objects c.args.logs.now c.in_ok-parts.parts.items c.in-Err.fault c.in_ok-parts.ensures.gathered c.requires c.in_ok-parts.ensures.parts c.in-Err.ensures.err

pub returns-in-Ok : goal.returns-in-Ok
returns-in-Ok c =
    c.in-Ok.ensures.made
    ∙ ap (λ (l : List (List (List (ℕ × ℤ)))). record { logs = l; objects = c.args.objects }) (ap logs_by_monitor c.in_ok-parts.ensures.parts ∙ seen_made c.args.watch.now c.args.objects c.args.logs.now c.in_ok-parts.ensures.gathered.limits)

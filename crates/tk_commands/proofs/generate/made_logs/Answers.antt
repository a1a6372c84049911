use Rattle.std.proofs.Common.{◌≡◌, ℕ, List, IfOk, length, ap, subst, ◌∙◌, refl}
use Rattle.std.specs.Prelude.{map}
use Rattle.tk_input.specs.Judged.{Assigned, last_monitor}
use Rattle.tk_input.specs.Logs.{LogSet}
use Rattle.tk_commands.specs.Generated.{shown}
use Rattle.tk_load.specs.Input.{joined}
use Rattle.tk_load.specs.Reads.{Meets}
use Rattle.tk_commands.specs.declared.making.Update.{Update as Made}
use Rattle.tk_commands.proofs.MakingLemmas.{last_made, logs_of_words}
use Rattle.tk_commands.proofs.generate.made_logs.Goals as goal

pub returns-clause-meets : goal.returns-clause-meets
returns-clause-meets c =
    let words = c.args.words.now in
    let seen = ap (λ (l : List Made). map shown l) c.as_slice.ensures.value in
    let parts = c.in_ok-parts.ensures.value ∙ logs_of_words _ words.monitors _ words.objects _ words.updates words.seed _ (c.monitors-monitors.ensures.value ∙ c.requires.monitors) (c.objects-objects.ensures.value ∙ c.requires.objects) refl (seen ∙ c.in_ok-updates.ensures.value) in
    subst (λ (p : Assigned). Meets (λ (s : LogSet). s) (joined p words.objects) c.logs_of.result) parts
    (subst (λ (n : ℕ). Meets (λ (s : LogSet). s) (joined c.in_ok-parts.parts.items n) c.logs_of.result) (c.objects-objects.ensures.value ∙ c.requires.objects) c.logs_of.ensures.meets)

pub returns-clause-monitors : goal.returns-clause-monitors
returns-clause-monitors c =
    let last = ap (λ (p : Assigned). last_monitor p) c.in_ok-parts.ensures.value ∙ last_made c.monitors-monitors.result (map shown c.as_slice.result.now) ∙ c.monitors-monitors.ensures.value in
    subst (λ (n : ℕ). IfOk c.logs_of.result (λ (s : LogSet). length s.logs ≡ n)) last c.logs_of.ensures.monitors

use Rattle.std.proofs.Common.{subst}
use Rattle.tk_base.specs.Settings.{Setup}
use Rattle.tk_input.specs.Logs.{IsValid, LogSet}
use Rattle.tk_run.proofs.headline.a_set_is_valid_for_its_windows.Goals as goal

pub returns : goal.returns
returns c = λ words width input kept before after p ends ticks wide given story sound is has found.
    let at_input = subst (λ (s : Setup). IsValid input.logs.logs s.objects p.k p.epsilon p.cut p.members) story.runs.settings_is
    (subst (λ (l : LogSet). IsValid l.logs kept.story.settings.objects p.k p.epsilon p.cut p.members) story.runs.logs_is (sound.published before after p is)) in
    c.a_valid_set_is_valid_for_its_windows.ensures words width p.k p.epsilon input ends p.cut ticks p.members
    (c.a_window_goes_over_the_logs.ensures words width input wide given) has found at_input

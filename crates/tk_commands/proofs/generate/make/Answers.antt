use Rattle.std.proofs.Common.{ℕ, List, length, ap, sym, ◌∙◌}
use Rattle.std.proofs.lemmas.List.FromFn.{length-map-range_with_len}
use Rattle.tk_commands.specs.Generated.{name_of}
use Rattle.tk_commands.proofs.generate.make.Goals as goal

pub returns-in-Ok-made_logs-clause-agreed : goal.returns-in-Ok-made_logs-clause-agreed
returns-in-Ok-made_logs-clause-agreed c = record {
  names = ap (λ (names : List (List ℕ)). length names) c.in_ok-names.ensures.ok ∙ length-map-range_with_len name_of 1 c.objects.result ∙ c.objects.ensures.value;
  objects = sym c.in-Ok-made_logs.ensures.objects;
  monitors = sym c.in-Ok-made_logs.ensures.monitors;
}

use Rattle.std.proofs.Common.{◌≡◌, ℕ, ◌+◌, ◌≤◌, ◌∷◌, [], ◌++◌, ℤ, List, All, length, ◌∙◌, arith}
use Rattle.std.proofs.lemmas.List.Elements.{All-push}
use Rattle.tk_base.specs.declared.ids.Mon.{Mon}
use Rattle.tk_input.specs.Logs.{IsObject}
use Rattle.tk_commands.proofs.MakingLemmas.{one_log}
use Rattle.tk_commands.proofs.making.parts_of.Goals as goal

pub loop-j-preserved : goal.loop-j-preserved
loop-j-preserved c =
    let parts = c.loop-j.parts.items in
    let log : Mon × List (ℕ × ℤ) = (record { 0 = c.loop-j.j + 1 }, c.new.result) in
    let pushed : c.push.new.self.items ≡ parts ++ log ∷ [] = c.in_ok-push.ensures.items in
    let few = c.in_ok-log_at.ensures.few in
    let all = c.requires.few in
    let within = c.loop-j-test.true in
    let most = c.requires.monitors in record {
      monitors = rw pushed (All-push (λ (p : Mon × List (ℕ × ℤ)). (1 ≤ p.0.0) × (p.0.0 ≤ 64)) parts log c.loop-j.invariant.monitors (omega arith, omega (arith, within, most)));
      objects = rw pushed (All-push (λ (p : Mon × List (ℕ × ℤ)). All (λ q. IsObject c.args.objects q.0) p.1) parts log c.loop-j.invariant.objects (rw c.new.ensures c.in_ok-log_at.ensures.objects));
      lengths = rw pushed (All-push (λ (p : Mon × List (ℕ × ℤ)). length p.1 ≤ 1000000) parts log c.loop-j.invariant.lengths (rw c.new.ensures (omega (arith, few, all))));
      value = pushed ∙ one_log c.loop-j.j c.args.updates.now parts c.new.result c.loop-j.invariant.value (c.new.ensures ∙ c.in_ok-log_at.ensures.value);
    }

use Rattle.std.proofs.Common.{◌≡◌, ◌∙◌, ◌+◌, ◌-◌, ◌++◌, ap, sym, rules, ℕ, List, map, arith}
use Rattle.std.proofs.lemmas.List.{append-nil}
use Rattle.std.proofs.lemmas.List.Elements.{All-push}
use Rattle.tk_input.specs.Logs.{IsObject}
use Rattle.tk_commands.specs.Generated.{Update, made, shown}
use Rattle.tk_commands.specs.declared.making.Update.{Update as Made}
use Rattle.tk_commands.proofs.MakingLemmas.{made_none, one_made}
use Rattle.tk_commands.proofs.making.updates_of.Goals as goal

pub loop-preserved : goal.loop-preserved
loop-preserved c =
    let pushed = c.in_ok-push.ensures.items in record {
      made = ap (λ (l : List Made). map shown l ++ made c.args.monitors c.args.objects (c.args.count - (c.loop.counter + 1)) c.draw.new.words) pushed
          ∙ one_made c.args.monitors c.args.objects c.args.count c.loop.counter c.loop.words c.draw.new.words c.args.seed c.loop.list.items c.draw.result c.loop-test.true c.draw.ensures.value c.draw.ensures.state c.loop.invariant.made;
      objects = rw pushed (All-push (λ (u : Made). IsObject c.args.objects u.change.obj.0) _ _ c.loop.invariant.objects c.draw.ensures.object);
      length = search rules;
    }

pub returns-clause-value : goal.returns-clause-value
returns-clause-value c =
    let ends : c.args.count - c.loop.counter ≡ 0 = omega (arith, c.loop-test.false) in
    let list = map shown c.loop.list.items in
    sym (append-nil list)
    ∙ sym (ap (λ (rest : List Update). list ++ rest) (ap (λ (n : ℕ). made c.args.monitors c.args.objects n c.loop.words) ends ∙ made_none c.args.monitors c.args.objects c.loop.words))
    ∙ c.loop.invariant.made

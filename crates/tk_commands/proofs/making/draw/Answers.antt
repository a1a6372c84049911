use Rattle.std.proofs.Common.{rules, ◌≡◌, ◌∙◌, of_z, to_z}
use mir.Syntax.{w128}
use Rattle.tk_commands.proofs.MakingLemmas.{after_four, by_four, drawn, same}
use Rattle.tk_commands.proofs.making.draw.Goals as goal

pub returns-clause-state : goal.returns-clause-state
returns-clause-state c =
    after_four c.args.words.now c.next_word.new.self c.next_word-one.new.self c.next_word-other.new.self c.next_word-2.new.self c.next_word.result c.next_word-one.result c.next_word-other.result c.next_word-2.result
    (drawn _ _ _ c.next_word.ensures) (drawn _ _ _ c.next_word-one.ensures) (drawn _ _ _ c.next_word-other.ensures) (drawn _ _ _ c.next_word-2.ensures)

pub returns-clause-value : goal.returns-clause-value
returns-clause-value c =
    let by : to_z w128 (of_z w128 c.change_by-by.result) ≡ c.change_by-by.result = search rules in
    same c.monitor_by-mon.result.0 _ c.object_by-obj.result.0 _ (to_z w128 (of_z w128 c.change_by-by.result)) _ c.monitor_by-mon.ensures c.object_by-obj.ensures.value (by ∙ c.change_by-by.ensures)
    ∙ by_four c.args.words.now c.next_word.new.self c.next_word-one.new.self c.next_word-other.new.self c.next_word-2.new.self c.next_word.result c.next_word-one.result c.next_word-other.result c.next_word-2.result
    (drawn _ _ _ c.next_word.ensures) (drawn _ _ _ c.next_word-one.ensures) (drawn _ _ _ c.next_word-other.ensures) (drawn _ _ _ c.next_word-2.ensures) c.args.monitors c.args.objects

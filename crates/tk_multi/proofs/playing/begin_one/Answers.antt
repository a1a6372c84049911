use Rattle.std.proofs.Common.{◌∷◌, ◌++◌, [], ◌∙◌, ap, arith}
use Rattle.tk_story.specs.Kept.{KeptStory}
use Rattle.tk_multi.proofs.playing.begin_one.Goals as goal

pub returns-in-Ok-clause-begins : goal.returns-in-Ok-clause-begins
returns-in-Ok-clause-begins c = record {
  names = c.push_reserved.ensures.items;
  watches = c.push_reserved-in-Ok.ensures.items;
  worlds = c.push_reserved-in-Ok-2.ensures.items ∙ ap (λ (w : KeptStory). c.args.lists.now.worlds.items ++ w ∷ []) c.in-Ok.ensures;
}

pub returns-in-Ok-clause-room : goal.returns-in-Ok-clause-room
returns-in-Ok-clause-room c = λ count room. record {
  names = let r = room.names in let p = c.push_reserved.ensures in omega (arith, r, p.len, p.capacity);
  watches = let r = room.watches in let p = c.push_reserved-in-Ok.ensures in omega (arith, r, p.len, p.capacity);
  worlds = let r = room.worlds in let p = c.push_reserved-in-Ok-2.ensures in omega (arith, r, p.len, p.capacity);
}

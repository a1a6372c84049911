-- The input that is made from a seed.
use Rattle.std.specs.Prelude.{ℕ, suc, zero, ◌+◌, ◌%◌, min, ◌==◌, nat_lt, if◌then◌else◌, ℤ, pos, ◌-ℤ◌, List, [], ◌∷◌, ◌++◌, map, filter, flat_map, codes, decimal, None, Result, Ok, Err}
use Rattle.std.specs.List.{range_with_len}
use Rattle.rand_xoshiro.specs.SplitMix64.{mix_u64}
use Rattle.tk_input.specs.Judged.{Assigned}
use Rattle.tk_input.specs.Logs.{LogSet}
use Rattle.tk_words.specs.Words.{GenerateWords}
use Rattle.tk_load.specs.Faults.{Fault, after, bad_whole}
use Rattle.tk_load.specs.Input.{joined, settings_in}
use Rattle.tk_load.specs.declared.input.Input.{Input}
use Rattle.tk_commands.specs.declared.making.Update.{Update as Made}
use Rattle.tk_load.specs.declared.status.InputKind.TheVariants.{TooMany}

-- one update: the change of an object at a monitor
pub record Update : Type 0 where
  pub mon : ℕ
  pub object : ℕ
  pub by : ℤ

-- the next word of the generator, and its state then
unfoldable pub word_at : ℕ → ℕ × ℕ
word_at state = mix_u64 state

-- an update that four words make, and the state after them: the lesser of two objects, so that small numbers are drawn more often
abbrev pub update_by : ℕ → ℕ → ℕ → ℕ → ℕ → ℕ → Update
update_by monitors objects one two three four = record {
  mon = one % monitors + 1;
  object = min (two % objects) (three % objects) + 1;
  by = pos (four % 100) -ℤ pos 20;
}

-- the state of the generator after its next word
abbrev pub after_one : ℕ → ℕ
after_one state = (word_at state).1

-- the update that is made from a state
unfoldable pub update_at : ℕ → ℕ → ℕ → Update
update_at monitors objects state =
    update_by monitors objects (word_at state).0 (word_at (after_one state)).0 (word_at (after_one (after_one state))).0 (word_at (after_one (after_one (after_one state)))).0

-- the state after it
unfoldable pub after_update : ℕ → ℕ
after_update state = after_one (after_one (after_one (after_one state)))

-- so many updates, from a state on
unfoldable pub made : ℕ → ℕ → ℕ → ℕ → List Update
made monitors objects zero state = []
made monitors objects (suc n) state = update_at monitors objects state ∷ made monitors objects n (after_update state)

-- an update as contracts see it
abbrev pub shown : Made → Update
shown u = record { mon = u.mon.0; object = u.change.obj.0; by = u.change.by }

-- the log of a monitor among what the code made
abbrev pub log_of : ℕ → List Made → List (ℕ × ℤ)
log_of mon updates = map (λ u. (u.change.obj.0, u.change.by)) (filter (λ u. u.mon.0 == mon) updates)

-- the changes of one monitor, in the order in which they were made
abbrev pub changes_at : ℕ → List Update → List (ℕ × ℤ)
changes_at mon updates = map (λ u. (u.object, u.by)) (filter (λ u. u.mon == mon) updates)

-- the logs of so many monitors, one each
abbrev pub logs_made : ℕ → List Update → Assigned
logs_made monitors updates = map (λ mon. (record { 0 = mon }, changes_at mon updates)) (range_with_len 1 monitors)

-- the name of an object: its number behind the letter o
abbrev pub name_of : ℕ → List ℕ
name_of o = codes "o" ++ decimal o

-- the names of so many objects
abbrev pub names_made : ℕ → List (List ℕ)
names_made objects = map name_of (range_with_len 1 objects)

-- the catalogue file of these names, one a line
abbrev pub names_text : ℕ → List ℕ
names_text objects = flat_map (λ o. name_of o ++ codes "\n") (range_with_len 1 objects)

-- there are at most 1,000,000 updates
abbrev pub few_updates : ℕ → Result (Unit {0}) Fault
few_updates updates = if nat_lt 1000000 updates then Err (bad_whole TooMany) else Ok tt

-- the logs of all monitors that some words make, together
abbrev pub logs_asked : GenerateWords → Result LogSet Fault
logs_asked words = joined (logs_made words.monitors (made words.monitors words.objects words.updates words.seed)) words.objects

-- the input of a generated run, or the first rule that fails
abbrev pub generated_of : GenerateWords → Result Input Fault
generated_of words =
    after (settings_in words.k words.epsilon 1 words.objects words.monitors) (λ settings.
    after (few_updates words.updates) (λ few.
    after (logs_asked words) (λ all.
    Ok (record { names = names_made words.objects; settings = settings; logs = all; ends = None; order = None }))))

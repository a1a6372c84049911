-- Which logs some parts make, or the first test that refuses them.
use Rattle.std.specs.Prelude.{◌≡◌, ℕ, ◌+◌, ◌^◌, ◌≤◌, max, ℤ, Bool, List, length, map, filter, fold, find, position, sum_by, Option, Some, None, is_some, option_map, option_and_then, Result, Ok, Err, ◌==◌, nat_lt, if◌then◌else◌, [], ◌∷◌, ◌++◌}
use Rattle.std.specs.List.{range_with_len}
use Rattle.tk_base.specs.Objects.{objects}
use Rattle.tk_base.specs.declared.ids.Mon.{Mon}
use Rattle.tk_input.specs.Logs.{LogSet, parts_of, updates_of, weight_of}
use Rattle.tk_input.specs.declared.logs.LogsFault.{LogsFault}
use Rattle.tk_input.specs.declared.logs.LogsFault.TheVariants.{MonitorGap, TooManyFeeders, TooManyUpdates, TooGreat, NoMemory}

-- a list of parts, each under its monitor
abbrev pub Assigned : Type 0
Assigned = List (Mon × List (ℕ × ℤ))

-- the parts of a monitor, in the order of the list
abbrev pub feeders_of : Assigned → ℕ → List (List (ℕ × ℤ))
feeders_of parts mon = map (λ p. p.1) (filter (λ p. p.0.0 == mon) parts)

-- the greatest monitor with a part
abbrev pub last_monitor : Assigned → ℕ
last_monitor parts = fold (λ last p. max last p.0.0) 0 parts

-- the parts of each monitor
abbrev pub logs_by_monitor : Assigned → List (List (List (ℕ × ℤ)))
logs_by_monitor parts = map (feeders_of parts) (range_with_len 1 (last_monitor parts))

-- the number, from 1, of the first that passes
abbrev pub first_at : {X : Type 0} → (X → Bool) → List X → Option ℕ
first_at test xs = option_map (λ i. i + 1) (position test xs)

-- the least monitor without a part below the last, or monitor 1 where no part is
abbrev pub first_gap : List (List (List (ℕ × ℤ))) → Option ℕ
first_gap logs = if length logs == 0 then Some 1 else first_at (λ parts. length parts == 0) logs

-- the least monitor with over 8 parts
abbrev pub first_crowded : List (List (List (ℕ × ℤ))) → Option ℕ
first_crowded logs = first_at (λ parts. nat_lt 8 (length parts)) logs

-- the parts pass the tests of their numbers: no monitor is without one, none has over 8, and the changes are
-- not over 4,000,000
pub record AreCounted (logs : List (List (List (ℕ × ℤ)))) : Type 0 where
  pub gap : first_gap logs ≡ None
  pub crowded : first_crowded logs ≡ None
  pub updates : sum_by updates_of logs ≤ 4000000

-- the logs of some monitors, over n objects
abbrev pub set_of : List (List (List (ℕ × ℤ))) → ℕ → LogSet
set_of logs n = record { logs = logs; objects = n }

-- the least object of a monitor whose changes pass the limit in size
abbrev pub great_object : ℕ → List (List (ℕ × ℤ)) → Option ℕ
great_object n parts = find (λ o. nat_lt (2 ^ 100) (weight_of parts o)) (objects n)

-- the least monitor with such an object
abbrev pub first_great : LogSet → Option ℕ
first_great s = first_at (λ parts. is_some (great_object s.objects parts)) s.logs

-- the fault that a monitor with such an object is
abbrev pub too_great : LogSet → ℕ → Option LogsFault
too_great s mon = option_map (λ o. TooGreat (record { 0 = mon }) (record { 0 = o })) (great_object s.objects (parts_of s.logs mon))

-- the least monitor and in it the least object whose changes pass the limit
abbrev pub great_in : LogSet → Option LogsFault
great_in s = option_and_then (too_great s) (first_great s)

-- a fault, or else the rest
abbrev pub unless : {A : Type 0} → Option LogsFault → Result A LogsFault → Result A LogsFault
unless None rest = rest
unless (Some e) rest = Err e

-- the logs, or the first test that refuses them
abbrev pub judged : LogSet → Result LogSet LogsFault
judged s =
    unless (option_map (λ mon. MonitorGap (record { 0 = mon })) (first_gap s.logs))
    (unless (option_map (λ mon. TooManyFeeders (record { 0 = mon })) (first_crowded s.logs))
    (unless (if nat_lt 4000000 (sum_by updates_of s.logs) then Some TooManyUpdates else None)
    (unless (great_in s) (Ok s))))

-- the logs that the parts make over n objects, or the first test that refuses them
abbrev pub logs_of : Assigned → ℕ → Result LogSet LogsFault
logs_of parts n = judged (set_of (logs_by_monitor parts) n)

-- a fault is the one that the parts have, but for want of memory
abbrev pub Refuses : {A : Type 0} → LogsFault → Result A LogsFault → Type 0
Refuses NoMemory meant = Unit
Refuses (MonitorGap mon) meant = meant ≡ Err (MonitorGap mon)
Refuses (TooManyFeeders mon) meant = meant ≡ Err (TooManyFeeders mon)
Refuses TooManyUpdates meant = meant ≡ Err TooManyUpdates
Refuses (TooGreat mon obj) meant = meant ≡ Err (TooGreat mon obj)

-- the parts of a monitor, each under its number
abbrev pub under : ℕ → List (List (ℕ × ℤ)) → Assigned
under mon parts = map (λ part. (record { 0 = mon }, part)) parts

-- the parts of all monitors from number n on, each under that of its monitor
abbrev pub assigned_from : ℕ → List (List (List (ℕ × ℤ))) → Assigned
assigned_from n [] = []
assigned_from n (parts ∷ logs) = under n parts ++ assigned_from (n + 1) logs

-- Parts under their monitors, and the logs that they make.
use Rattle.std.proofs.Common.{◌≡◌, ℕ, ℤ, ◌+◌, ◌-◌, ◌<◌, List, [], ◌∷◌, ◌++◌, length, map, get_or, take, Option, ap, sym, ◌∙◌, arith}
use Rattle.std.proofs.lemmas.List.{length-map, length-take, map_more}
use Rattle.tk_input.specs.Judged.{under, assigned_from}
use Rattle.tk_input.specs.Logs.{parts_of}
use Rattle.tk_input.proofs.AssignedLemmas.{assigned_push}
use Rattle.tk_multi.specs.Projection.{seen_logs, watched_in}

length-take_within : {A : Type 0} (xs : List A) (j : ℕ) → j < length xs → length (take j xs) ≡ j
length-take_within xs j within = let e = length-take j xs in omega (arith, e, within)

pub assigned_more : (watch : List (Option ℕ)) (logs : List (List (List (ℕ × ℤ)))) (j : ℕ) → j < length logs
    → assigned_from 1 (seen_logs watch (take j logs)) ++ under (j + 1) (map (watched_in watch) (parts_of logs (j + 1))) ≡ assigned_from 1 (seen_logs watch (take (j + 1) logs))
assigned_more watch logs j within =
    let see = map (watched_in watch) in
    let count : length (seen_logs watch (take j logs)) ≡ j = length-map (take j logs) see ∙ length-take_within logs j within in
    ap (λ (k : ℕ). assigned_from 1 (seen_logs watch (take j logs)) ++ under k (see (parts_of logs (j + 1)))) (let e : j + 1 ≡ 1 + length (seen_logs watch (take j logs)) = omega (arith, count) in e)
    ∙ sym (assigned_push 1 (seen_logs watch (take j logs)) (see (parts_of logs (j + 1))))
    ∙ ap (λ (k : ℕ). assigned_from 1 (seen_logs watch (take j logs) ++ see (get_or logs k []) ∷ [])) (let e : j + 1 - 1 ≡ j = omega arith in e)
    ∙ ap (assigned_from 1) (sym (map_more see logs j [] within))

-- What one more count, place or monitor adds to the text of a line.
use Rattle.std.proofs.Common.{◌≡◌, ℕ, ◌+◌, ◌-◌, ◌<◌, ℤ, cond, Some, List, [], ◌∷◌, ◌++◌, length, take, get_or, sym, ap, ◌∙◌, arith, length-take}
use Rattle.std.specs.Prelude.{codes, decimal, flat_map, nat_lt, slice_get}
use Rattle.std.specs.Fmt.{signed_decimal}
use Rattle.std.specs.List.{join_by, range_with_len}
use Rattle.std.proofs.lemmas.List.FromFn.{length-range_with_len}
use Rattle.std.proofs.lemmas.List.{take_more}
use Rattle.std.proofs.lemmas.Option.{get_or_from_slice_get}
use Rattle.tk_border.proofs.RisingLemmas.{range-append}
use Rattle.tk_journal.proofs.LineLemmas.{flat_map-push, join_by-push}
use Rattle.tk_wire.specs.declared.beginning.Beginning.{Beginning}
use Rattle.tk_host.specs.declared.seat.Seat.{Seat}
use Rattle.tk_host.specs.Origins.{absolute, none}
use Rattle.tk_host.specs.Text.{counts_text, monitor_text, places_text}

pub counts_more : (bs : List Beginning) (i : ℕ) → i < length bs
    → counts_text (take i bs) ++ (cond (nat_lt 0 i) (codes ",") [] ++ decimal (get_or bs i none).count) ≡ counts_text (take (i + 1) bs)
counts_more bs i within =
    let long : length (take i bs) ≡ i = grind (arith, length-take) in
    ap (λ (n : ℕ). counts_text (take i bs) ++ (cond (nat_lt 0 n) (codes ",") [] ++ decimal (get_or bs i none).count)) (sym long)
    ∙ sym (join_by-push (λ (b : Beginning). decimal b.count) (codes ",") (take i bs) (get_or bs i none))
    ∙ ap counts_text (sym (take_more bs i none within))

-- the first absolute places
abbrev pub places_to : List Beginning → List ℕ → ℕ → List ℕ
places_to bs places n = join_by (λ i. signed_decimal (absolute bs places i)) (codes ",") (range_with_len 0 n)

pub places_more : (bs : List Beginning) (places : List ℕ) (i : ℕ) (z : ℤ) → z ≡ absolute bs places i
    → places_to bs places i ++ (cond (nat_lt 0 i) (codes ",") [] ++ signed_decimal z) ≡ places_to bs places (i + 1)
places_more bs places i z is =
    let text = λ (j : ℕ). signed_decimal (absolute bs places j) in
    let long = length-range_with_len 0 i in
    let next : i ≡ 0 + i = omega arith in
    ap (λ (y : ℤ). places_to bs places i ++ (cond (nat_lt 0 i) (codes ",") [] ++ signed_decimal y)) is
    ∙ ap (λ (n : ℕ). places_to bs places i ++ (cond (nat_lt 0 n) (codes ",") [] ++ text i)) (sym long)
    ∙ sym (join_by-push text (codes ",") (range_with_len 0 i) i)
    ∙ ap (λ (k : ℕ). join_by text (codes ",") (range_with_len 0 i ++ k ∷ [])) next
    ∙ ap (join_by text (codes ",")) (sym (range-append 0 i 1))

pub monitors_more : (seats : List Seat) (cut : List (List ℕ)) (i : ℕ) (places : List ℕ) → slice_get cut i ≡ Some places
    → flat_map (monitor_text seats cut) (range_with_len 1 i) ++ (codes " " ++ decimal (i + 1) ++ codes ":" ++ places_text seats (i + 1) places)
    ≡ flat_map (monitor_text seats cut) (range_with_len 1 (i + 1))
monitors_more seats cut i places here =
    let front = flat_map (monitor_text seats cut) (range_with_len 1 i) in
    let next : i + 1 ≡ 1 + i = omega arith in
    let place : i ≡ 1 + i - 1 = omega arith in
    ap (λ (p : List ℕ). front ++ (codes " " ++ decimal (i + 1) ++ codes ":" ++ places_text seats (i + 1) p)) (sym (get_or_from_slice_get cut i places [] here))
    ∙ ap (λ (m : ℕ). front ++ (codes " " ++ decimal m ++ codes ":" ++ places_text seats m (get_or cut i []))) next
    ∙ ap (λ (j : ℕ). front ++ (codes " " ++ decimal (1 + i) ++ codes ":" ++ places_text seats (1 + i) (get_or cut j []))) place
    ∙ sym (flat_map-push (monitor_text seats cut) (range_with_len 1 i) (1 + i))
    ∙ ap (flat_map (monitor_text seats cut)) (sym (range-append 1 i 1))

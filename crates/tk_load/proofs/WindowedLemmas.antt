-- The logs of an input over which a window goes are those of its files' ticks, expanded.
use Rattle.std.proofs.Common.{◌≡◌, ℕ, ℤ, Bool, true, false, List, [], ◌∷◌, ◌++◌, All, Option, Some, None, option_map, Result, Ok, Err, length, map, max, refl, sym, ap, subst, ◌∙◌, append_assoc}
use Rattle.std.specs.Prelude.{◌&&◌, ◌==◌, cond, filter, fold, nat_le, nat_lt, if◌then◌else◌, sum_by}
use Rattle.std.specs.List.{range_with_len}
use Rattle.std.proofs.lemmas.List.{append-nil}
use Rattle.std.proofs.lemmas.List.Elements.{All-cons, All-nil}
use Rattle.tk_base.specs.declared.ids.Mon.{Mon}
use Rattle.tk_input.specs.Judged.{Assigned, great_in, first_crowded, first_gap, judged, logs_by_monitor, logs_of, set_of, unless}
use Rattle.tk_input.specs.Logs.{IsValid, LogSet, updates_of}
use Rattle.tk_input.specs.Records.{and_then, through}
use Rattle.tk_input.specs.declared.logs.LogsFault.{LogsFault}
use Rattle.tk_input.specs.declared.logs.LogsFault.TheVariants.{MonitorGap, TooManyFeeders, TooManyUpdates}
use Rattle.tk_window.specs.Laws.{ValidSetIsValidForTheWindows}
use Rattle.tk_window.specs.TickEnds.{Sources, ends_by_monitor, parts_in, ticks_at}
use Rattle.tk_window.specs.Ticks.{ticked_of}
use Rattle.tk_window.specs.Validity.{expanded_ends, expanded_logs}
use Rattle.tk_window.specs.Window.{Expansion, expanded_of, expansion}
use Rattle.tk_load.specs.Faults.{Fault, bad_file, bad_whole, expand_fault, log_fault, logs_fault, telling}
use Rattle.tk_load.specs.Input.{File, ReadWords, basis_of, bytes_from, bytes_in, changes_after, changes_in, count_of, counted, ends_with, greatest_monitor, input_with, joined, limits_in, log_added, log_from, logs_in, names_in, order_in, settings_in, together, width_in}
use Rattle.tk_load.specs.Laws.{ValidSetIsValidForItsWindows, WindowGoesOverTheLogs}
use Rattle.tk_load.specs.Windowed.{IsTicked, IsWindowedOver, ticked_row, ticked_rows, ticks_from, ticks_or_none}
use Rattle.tk_load.specs.declared.basis.Basis.{Basis}
use Rattle.tk_load.specs.declared.changes.Together.{Together}
use Rattle.tk_load.specs.declared.settings.Limits.{Limits}
use Rattle.tk_input.proofs.CatalogLemmas.{ok, ok_is, then_is}

-- ---- what rules that were passed gave

-- a result whose faults are told as those of the input
told_is : {A E : Type 0} (fault : E → Fault) (r : Result A E) (x : A) → telling fault r ≡ Ok x → r ≡ Ok x
told_is {A} {E} fault (Ok y) x is = let same : y ≡ x = cc in ap (λ (z : A). Ok z) same
told_is fault (Err e) x is = absurd (cc)

-- a test that refuses
tested_is : {A E : Type 0} (test : Bool) (e : E) (x y : A) → (if test then Err e else Ok x) ≡ Ok y → x ≡ y
tested_is true e x y is = absurd (cc)
tested_is false e x y is = cc

-- a test that grants
granted_is : {A E : Type 0} (test : Bool) (e : E) (x y : A) → (if test then Ok x else Err e) ≡ Ok y → x ≡ y
granted_is true e x y is = cc
granted_is false e x y is = absurd (cc)

-- a test of the logs together
rest_is : {A : Type 0} (fault : Option LogsFault) (rest : Result A LogsFault) (x : A) → unless fault rest ≡ Ok x → rest ≡ Ok x
rest_is None rest x is = is
rest_is (Some e) rest x is = absurd (cc)

-- ---- one log

-- the bytes of a file that was read
bytes_are : (name : List ℕ) (content : Option (List ℕ)) (bytes : List ℕ) → bytes_from name content ≡ Ok bytes → content ≡ Some bytes
bytes_are name None bytes is = absurd (cc)
bytes_are name (Some found) bytes is = ap (λ (b : List ℕ). Some b) (tested_is (nat_lt 67108864 (length found)) (bad_file name _) found bytes is)

module _ (width : ℕ) (names : List (List ℕ)) where
  -- a log of the words in ticks, expanded, under its monitor
  abbrev source : ℕ × File → Mon × Expansion
  source log = (record { 0 = log.0 }, expansion width (ticks_from names log.1.content))

  abbrev Fits : ℕ × File → Type 0
  Fits log = IsTicked names log.1

  -- the ticks that were found are those of the file
  ticked_is : (file : File) (bytes : List ℕ) (ticks : List (List (ℕ × ℤ))) → file.content ≡ Some bytes → ticked_of names bytes ≡ Ok ticks → ticks ≡ ticks_from names file.content
  ticked_is file bytes ticks read is = sym (ap (ticks_from names) read ∙ ap ticks_or_none is)

  -- what one log of the words gives
  one_log : (before : ℕ) (file : File) (log : Expansion) → changes_after before (Some width) names file ≡ Ok log → IsTicked names file × (log ≡ expansion width (ticks_from names file.content))
  one_log before file log is =
      let (all, changes, few) = then_is (counted before file.name) (changes_in (Some width) names file) log is in
      let (bytes, read, from) = then_is (log_from (Some width) names file.name) (bytes_in file) all changes in
      let (ticks, told, fits) = then_is (λ ts. telling (expand_fault file.name) (expanded_of width ts)) (telling (log_fault file.name) (ticked_of names bytes)) all from in
      let content = bytes_are file.name file.content bytes read in
      let found = told_is (log_fault file.name) (ticked_of names bytes) ticks told in
      let same = ticked_is file bytes ticks content found in
      let whole = tested_is _ _ (expansion width ticks) all (told_is (expand_fault file.name) (expanded_of width ticks) all fits) in
      let counted_all = tested_is _ _ all log few in (
        record { bytes = bytes; read = content; ticks = found ∙ ap (λ (ts : List (List (ℕ × ℤ))). Ok ts) same },
        sym counted_all ∙ sym whole ∙ ap (expansion width) same,
      )

  -- ---- all of them

  -- the logs behind those before are the files' ticks, expanded
  record AreTicked (before : Sources) (logs : List (ℕ × File)) (all : Sources) : Type 0 where
    files : All Fits logs
    is : all ≡ before ++ map source logs

  -- no log, and one in front
  through_none : (before all : Sources) → through (log_added (Some width) names) before [] ≡ Ok all → before ≡ all
  unfolding through
  through_none before all is = cc

  through_one : (before : Sources) (log : ℕ × File) (rest : List (ℕ × File)) → through (log_added (Some width) names) before (log ∷ rest) ≡ and_then (λ mid. through (log_added (Some width) names) mid rest) (log_added (Some width) names before log)
  unfolding through
  through_one before log rest = refl

  -- so with each
  all_logs : (before : Sources) (logs : List (ℕ × File)) (all : Sources) → through (log_added (Some width) names) before logs ≡ Ok all → AreTicked before logs all
  all_logs before [] all is = record { files = All-nil Fits; is = sym (through_none before all is) ∙ sym (append-nil before) }
  all_logs before (log ∷ rest) all is =
      let (mid, added, later) = then_is (λ mid. through (log_added (Some width) names) mid rest) (log_added (Some width) names before log) all (sym (through_one before log rest) ∙ is) in
      let (changes, given, one) = then_is (λ changes. Ok (before ++ (record { 0 = log.0 }, changes) ∷ [])) (changes_after (count_of before) (Some width) names log.1) mid added in
      let (fits, expanded) = one_log (count_of before) log.1 changes given in
      let more = all_logs mid rest all later in
      let front = sym (ok_is (before ++ (record { 0 = log.0 }, changes) ∷ []) mid one) ∙ ap (λ (e : Expansion). before ++ (record { 0 = log.0 }, e) ∷ []) expanded in
      record {
        files = All-cons Fits log rest fits more.files;
        is = more.is ∙ ap (λ (m : Sources). m ++ map source rest) front ∙ append_assoc before (source log ∷ []) (map source rest);
      }

-- ---- the rows of the monitors

-- what is kept of values that are made of others, and maps over maps
filter_over : {A B : Type 0} (g : A → B) (p : A → Bool) (q : B → Bool) → ((a : A) → q (g a) ≡ p a) → (xs : List A) → filter q (map g xs) ≡ map g (filter p xs)
filter_over g p q same [] = refl
filter_over {A} {B} g p q same (x ∷ xs) = ap (λ (b : Bool). cond b (g x ∷ filter q (map g xs)) (filter q (map g xs))) (same x) ∙ ap (λ (ys : List B). cond (p x) (g x ∷ ys) ys) (filter_over g p q same xs) ∙ go (p x)
  where
    go : (b : Bool) → cond b (g x ∷ map g (filter p xs)) (map g (filter p xs)) ≡ map g (cond b (x ∷ filter p xs) (filter p xs))
    go true = refl
    go false = refl

map_over : {A B C : Type 0} (f : B → C) (g : A → B) (h : A → C) → ((a : A) → f (g a) ≡ h a) → (xs : List A) → map f (map g xs) ≡ map h xs
map_over f g h same [] = refl
map_over {A} {B} {C} f g h same (x ∷ xs) = ap (λ (c : C). c ∷ map f (map g xs)) (same x) ∙ ap (λ (cs : List C). h x ∷ cs) (map_over f g h same xs)

map_same : {A C : Type 0} (f h : A → C) → ((a : A) → f a ≡ h a) → (xs : List A) → map f xs ≡ map h xs
map_same f h same [] = refl
map_same {A} {C} f h same (x ∷ xs) = ap (λ (c : C). c ∷ map f xs) (same x) ∙ ap (λ (cs : List C). h x ∷ cs) (map_same f h same xs)

-- what is taken of each log, by monitor, is what is made of each row of ticks
module _ {Y X : Type 0} (names : List (List ℕ)) (g : ℕ × File → Y) (mon_of : Y → ℕ) (out : Y → X) (made : List (List (ℕ × ℤ)) → X)
    (of_mon : (log : ℕ × File) → mon_of (g log) ≡ log.0) (is_made : (log : ℕ × File) → out (g log) ≡ made (ticks_from names log.1.content)) where
  -- what is taken of the logs of a monitor, and the greatest monitor
  abbrev row : List Y → ℕ → List X
  row ys mon = map out (filter (λ y. mon_of y == mon) ys)

  abbrev last : List Y → ℕ
  last ys = fold (λ (n : ℕ) y. max n (mon_of y)) 0 ys

  -- one row, and all
  one_row : (logs : List (ℕ × File)) (mon : ℕ) → row (map g logs) mon ≡ map made (ticked_row names logs mon)
  one_row logs mon =
      let kept : List (ℕ × File) = filter (λ log. log.0 == mon) logs in
      ap (λ (ys : List Y). map out ys) (filter_over g (λ log. log.0 == mon) (λ y. mon_of y == mon) (λ log. ap (λ n. n == mon) (of_mon log)) logs)
      ∙ map_over out g (λ log. made (ticks_from names log.1.content)) is_made kept
      ∙ sym (map_over made (λ (log : ℕ × File). ticks_from names log.1.content) (λ log. made (ticks_from names log.1.content)) (λ log. refl) kept)

  last_same : (logs : List (ℕ × File)) (n : ℕ) → fold (λ (n : ℕ) y. max n (mon_of y)) n (map g logs) ≡ fold (λ (n : ℕ) (log : ℕ × File). max n log.0) n logs
  last_same [] n = refl
  last_same (log ∷ logs) n = last_same logs (max n (mon_of (g log))) ∙ ap (λ m. fold (λ (n : ℕ) (log : ℕ × File). max n log.0) (max n m) logs) (of_mon log)

  rows_made : (logs : List (ℕ × File)) → map (row (map g logs)) (range_with_len 1 (last (map g logs))) ≡ map (λ r. map made r) (ticked_rows names logs)
  rows_made logs =
      ap (λ n. map (row (map g logs)) (range_with_len 1 n)) (last_same logs 0)
      ∙ map_same (row (map g logs)) (λ mon. map made (ticked_row names logs mon)) (one_row logs) (range_with_len 1 (greatest_monitor logs))
      ∙ sym (map_over (λ (r : List (List (List (ℕ × ℤ)))). map made r) (ticked_row names logs) (λ mon. map made (ticked_row names logs mon)) (λ mon. refl) (range_with_len 1 (greatest_monitor logs)))

-- where the ticks end
ends_made : (width : ℕ) (names : List (List ℕ)) (logs : List (ℕ × File)) → ends_by_monitor (map (source width names) logs) ≡ expanded_ends width (ticked_rows names logs)
ends_made width names logs = rows_made names (source width names) (λ y. y.0.0) (λ y. y.1.ends) (λ ts. (expansion width ts).ends) (λ log. refl) (λ log. refl) logs

-- the changes
abbrev part_source : ℕ → List (List ℕ) → ℕ × File → Mon × List (ℕ × ℤ)
part_source width names log = (record { 0 = log.0 }, (expansion width (ticks_from names log.1.content)).part)

parts_made : (width : ℕ) (names : List (List ℕ)) (logs : List (ℕ × File)) → logs_by_monitor (parts_in (map (source width names) logs)) ≡ expanded_logs width (ticked_rows names logs)
parts_made width names logs =
    ap (λ (ps : Assigned). logs_by_monitor ps) (map_over (λ (l : Mon × Expansion). (l.0, l.1.part)) (source width names) (part_source width names) (λ log. refl) logs)
    ∙ rows_made names (part_source width names) (λ y. y.0.0) (λ y. y.1) (λ ts. (expansion width ts).part) (λ log. refl) (λ log. refl) logs

-- ---- the whole

-- logs that pass the tests are those that the parts make
judged_is : (made all : LogSet) → judged made ≡ Ok all → made ≡ all
judged_is made all is =
    let gap : Option LogsFault = option_map (λ mon. MonitorGap (record { 0 = mon })) (first_gap made.logs) in
    let crowded : Option LogsFault = option_map (λ mon. TooManyFeeders (record { 0 = mon })) (first_crowded made.logs) in
    let updates : Option LogsFault = if nat_lt 4000000 (sum_by updates_of made.logs) then Some TooManyUpdates else None in
    let great : Option LogsFault = great_in made in
    let last = unless great (Ok made) in
    let third = unless updates last in
    ok_is {E = LogsFault} made all (rest_is great (Ok made) all (rest_is updates last all (rest_is crowded third all (rest_is gap (unless crowded third) all is))))

joined_is : (parts : Assigned) (objects : ℕ) (all : LogSet) → joined parts objects ≡ Ok all → logs_by_monitor parts ≡ all.logs
joined_is parts objects all is = ap (λ (s : LogSet). s.logs) (judged_is (set_of (logs_by_monitor parts) objects) all (told_is logs_fault (logs_of parts objects) all is))

-- the width of a window is the one that was asked for
width_is : (asked : Option ℕ) (width : ℕ) (tested : Option ℕ) → asked ≡ Some width → width_in asked ≡ Ok tested → tested ≡ Some width
width_is asked width tested same is = sym (granted_is (nat_lt 0 width && nat_le width 1000000) (bad_whole _) (Some width) tested (sym (ap width_in same) ∙ is))

-- so with the settings
limits_are : (words : ReadWords) (width n m : ℕ) (limits : Limits) → words.width ≡ Some width → limits_in words.k words.epsilon words.own_weight words.width n m ≡ Ok limits → limits.width ≡ Some width
limits_are words width n m limits same is =
    let (settings, set, granting) = then_is _ (settings_in words.k words.epsilon words.own_weight n m) limits is in
    let (tested, granted, whole) = then_is (λ tested. Ok (record { settings = settings; width = tested })) (width_in words.width) limits granting in
    sym (ap (λ (l : Limits). l.width) (ok_is {E = Fault} (record { settings = settings; width = tested }) limits whole)) ∙ width_is words.width width tested same granted

-- the logs together, of the files' ticks
record AreTogether (width : ℕ) (names : List (List ℕ)) (logs : List (ℕ × File)) (all : Together) : Type 0 where
  files : All (λ log. IsTicked names log.1) logs
  logs_are : all.logs.logs ≡ expanded_logs width (ticked_rows names logs)
  ends_are : all.ends ≡ Some (expanded_ends width (ticked_rows names logs))

-- the logs, put together
together_is : (width : ℕ) (names : List (List ℕ)) (logs : List (ℕ × File)) (sources : Sources) (n : ℕ) (all : Together)
    → logs_in (Some width) names logs ≡ Ok sources → together (Some width) sources n ≡ Ok all → AreTogether width names logs all
together_is width names logs sources n all given is =
    let ticked = all_logs width names [] logs sources given in
    let (set, passed, whole) = then_is (λ set. Ok (record { logs = set; ends = ends_with (Some width) sources })) (joined (parts_in sources) n) all is in
    let same = ok_is {E = Fault} (record { logs = set; ends = ends_with (Some width) sources }) all whole in
    record {
      files = ticked.files;
      logs_are = sym (ap (λ (t : Together). t.logs.logs) same) ∙ sym (joined_is (parts_in sources) n set passed)
          ∙ ap (λ (s : Sources). logs_by_monitor (parts_in s)) ticked.is ∙ parts_made width names logs;
      ends_are = sym (ap (λ (t : Together). t.ends) same) ∙ ap (λ (s : Sources). Some (ends_by_monitor s)) ticked.is
          ∙ ap (λ (e : List (List (List ℕ))). Some e) (ends_made width names logs);
    }

-- what stands in front of the order
record IsBasis (width : ℕ) (words : ReadWords) (basis : Basis) : Type 0 where
  files : All (λ log. IsTicked basis.names log.1) words.logs
  logs_are : basis.logs.logs ≡ expanded_logs width (ticked_rows basis.names words.logs)
  ends_are : basis.ends ≡ Some (expanded_ends width (ticked_rows basis.names words.logs))

-- so is what the words give
basis_is : (words : ReadWords) (width : ℕ) (basis : Basis) → words.width ≡ Some width → basis_of words ≡ Ok basis → IsBasis width words basis
basis_is words width basis same is =
    let (names, named, limited) = then_is _ (names_in words.objects) basis is in
    let (limits, tested, read) = then_is _ (limits_in words.k words.epsilon words.own_weight words.width (length names) (greatest_monitor words.logs)) basis limited in
    let (sources, given, joins) = then_is _ (logs_in limits.width names words.logs) basis read in
    let (all, put, whole) = then_is _ (together limits.width sources (length names)) basis joins in
    let wide = limits_are words width (length names) (greatest_monitor words.logs) limits same tested in
    let given_wide = subst (λ (w : Option ℕ). logs_in w names words.logs ≡ Ok sources) wide given in
    let put_wide = subst (λ (w : Option ℕ). together w sources (length names) ≡ Ok all) wide put in
    let t = together_is width names words.logs sources (length names) all given_wide put_wide in
    let made : Basis = record { names = names; settings = limits.settings; logs = all.logs; ends = all.ends } in
    let done : IsBasis width words made = record { files = t.files; logs_are = t.logs_are; ends_are = t.ends_are } in
    subst (IsBasis width words) (ok_is {E = Fault} made basis whole) done

-- and the input
pub windowed : WindowGoesOverTheLogs
windowed words width input same is =
    let (basis, based, ordered) = then_is _ (basis_of words) input is in
    let (order, given, whole) = then_is (λ order. Ok (input_with basis order)) (order_in basis.settings words.order) input ordered in
    let b = basis_is words width basis same based in
    let done : IsWindowedOver width words (input_with basis order) = record { files = b.files; logs = b.logs_are; ends = b.ends_are } in
    subst (IsWindowedOver width words) (ok_is {E = Fault} (input_with basis order) input whole) done

-- ---- sets

-- a set that is valid over the logs is valid for the windows
pub valid_for_its_windows : ValidSetIsValidForTheWindows → ValidSetIsValidForItsWindows
valid_for_its_windows law words width k epsilon input ends cut ticks set over has found valid =
    let rows = ticked_rows input.names words.logs in
    let same : ends ≡ expanded_ends width rows = let both : Some ends ≡ Some (expanded_ends width rows) = sym has ∙ over.ends in cc in
    law width input.settings.objects k epsilon rows cut ticks set
    (ap (λ (e : List (List (List ℕ))). ticks_at e cut) (sym same) ∙ found)
    (subst (λ (logs : List (List (List (ℕ × ℤ)))). IsValid logs input.settings.objects k epsilon cut set) over.logs valid)

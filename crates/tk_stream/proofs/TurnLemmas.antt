-- What a turn does to what is first among the lines that are left.
use Rattle.std.proofs.Common.{◌≡◌, ℕ, Bool, true, false, List, [], ◌∷◌, ◌++◌, Option, Some, None, Result, Ok, Err, IfOk, IfErr, refl, sym, subst, ap, ◌∙◌}
use Rattle.tk_input.specs.Files.{one_more}
use Rattle.tk_stream.specs.First.{Found, first_of, found_at, next_number}
use Rattle.tk_stream.specs.Line.{entry_of, judged_as, line_of}
use Rattle.tk_stream.specs.LineBuffer.{Held, left_in}
use Rattle.tk_stream.specs.Lines.{lines_left}
use Rattle.tk_stream.specs.Records.{FailsItem, FindsItem, MayEnd, Unread, first_in, found_before}
use Rattle.tk_stream.specs.Taking.{IsNext}
use Rattle.tk_stream.specs.Turn.{Counts, Turns}
use Rattle.tk_stream.specs.declared.item.Item.{Item}
use Rattle.tk_stream.specs.declared.line.Judged.{Judged}
use Rattle.tk_stream.specs.declared.line.Judged.TheVariants as j
use Rattle.tk_stream.specs.declared.records.StreamFault.{StreamFault}
use Rattle.tk_stream.specs.declared.records.StreamFault.TheVariants as f
use Rattle.tk_stream.specs.declared.records.Turn.{Turn}
use Rattle.tk_stream.specs.declared.records.Turn.TheVariants as t

-- what is first at a line that was judged
abbrev behind : Bool → List (List ℕ) → Bool → Judged → ℕ → ℕ → List (List ℕ) → Found
behind ticks names skips judged number skipped left =
    found_at skips (judged_as judged) number skipped left (first_of ticks names skips number skipped left) (first_of ticks names skips number (one_more skipped) left)

first_step : (ticks : Bool) (names : List (List ℕ)) (skips : Bool) (number skipped : ℕ) (line : List ℕ) (left : List (List ℕ)) → first_of ticks names skips number skipped (line ∷ left) ≡ found_at skips (line_of ticks names line) (next_number number) skipped left (first_of ticks names skips (next_number number) skipped left) (first_of ticks names skips (next_number number) (one_more skipped) left)
unfolding first_of
first_step ticks names skips number skipped line left = refl

first_next : (ticks : Bool) (names : List (List ℕ)) (skips : Bool) (number number1 skipped : ℕ) (judged : Judged) (all left : List (List ℕ)) → number1 ≡ next_number number → IsNext ticks names judged all left → first_of ticks names skips number skipped all ≡ behind ticks names skips judged number1 skipped left
first_next ticks names skips number number1 skipped judged all left counted next =
    ap (first_of ticks names skips number skipped) next.first
    ∙ first_step ticks names skips number skipped next.line left
    ∙ ap (λ w. found_at skips w (next_number number) skipped left (first_of ticks names skips (next_number number) skipped left) (first_of ticks names skips (next_number number) (one_more skipped) left)) (sym next.is)
    ∙ ap (λ n. behind ticks names skips judged n skipped left) (sym counted)

-- what is shown before a turn or after it
abbrev pub shown : Bool → Bool → ℕ → List (List ℕ) → ℕ → ℕ → Unread
shown tells skips faults all number skipped =
    record { tells = tells; lines = all; number = number; skips = skips; skipped = skipped; faults = faults }

-- a line was taken and counted, and a turn came of it
pub counted_ok : (ticks : Bool) (names : List (List ℕ)) (judged : Judged) (tells skips : Bool) (result : Result Turn StreamFault) (faults number number1 skipped skipped1 : ℕ) (all left : List (List ℕ)) → (tells ≡ true → IsNext ticks names judged all left) → number1 ≡ next_number number → Counts judged skips result number1 skipped skipped1
    → IfOk result (λ turn. Turns ticks names turn (shown tells skips faults all number skipped) (shown tells skips faults left number1 skipped1))
counted_ok ticks names j.Empty tells skips result faults number number1 skipped skipped1 all left next counted counts =
    subst (λ r. IfOk r (λ turn. Turns ticks names turn (shown tells skips faults all number skipped) (shown tells skips faults left number1 skipped1))) (sym counts.0)
    (λ told. first_next ticks names skips number number1 skipped j.Empty all left counted (next told) ∙ ap (λ s. first_of ticks names skips number1 s left) (sym counts.1))
counted_ok ticks names (j.Found item) tells skips result faults number number1 skipped skipped1 all left next counted counts =
    subst (λ r. IfOk r (λ turn. Turns ticks names turn (shown tells skips faults all number skipped) (shown tells skips faults left number1 skipped1))) (sym counts.0)
    (λ told. first_next ticks names skips number number1 skipped (j.Found item) all left counted (next told) ∙ ap (λ s. found_before (Ok (Some (entry_of item))) (shown tells skips faults left number1 s)) (sym counts.1))
counted_ok ticks names (j.Bad fault) tells true result faults number number1 skipped skipped1 all left next counted counts =
    subst (λ r. IfOk r (λ turn. Turns ticks names turn (shown tells true faults all number skipped) (shown tells true faults left number1 skipped1))) (sym counts.0)
    (λ told. first_next ticks names true number number1 skipped (j.Bad fault) all left counted (next told) ∙ ap (λ s. first_of ticks names true number1 s left) (sym counts.1))
counted_ok ticks names (j.Bad fault) tells false result faults number number1 skipped skipped1 all left next counted counts =
    subst (λ r. IfOk r (λ turn. Turns ticks names turn (shown tells false faults all number skipped) (shown tells false faults left number1 skipped1))) (sym counts.0) tt

-- a line was taken and counted, and it is bad
pub counted_err : (ticks : Bool) (names : List (List ℕ)) (judged : Judged) (tells skips : Bool) (result : Result Turn StreamFault) (faults number number1 skipped skipped1 : ℕ) (all left : List (List ℕ)) → (tells ≡ true → IsNext ticks names judged all left) → number1 ≡ next_number number → Counts judged skips result number1 skipped skipped1
    → IfErr result (λ fault. FailsItem ticks names fault (shown tells skips faults all number skipped) (shown tells skips faults left number1 skipped1))
counted_err ticks names j.Empty tells skips result faults number number1 skipped skipped1 all left next counted counts =
    subst (λ r. IfErr r (λ fault. FailsItem ticks names fault (shown tells skips faults all number skipped) (shown tells skips faults left number1 skipped1))) (sym counts.0) tt
counted_err ticks names (j.Found item) tells skips result faults number number1 skipped skipped1 all left next counted counts =
    subst (λ r. IfErr r (λ fault. FailsItem ticks names fault (shown tells skips faults all number skipped) (shown tells skips faults left number1 skipped1))) (sym counts.0) tt
counted_err ticks names (j.Bad fault) tells true result faults number number1 skipped skipped1 all left next counted counts =
    subst (λ r. IfErr r (λ fault. FailsItem ticks names fault (shown tells true faults all number skipped) (shown tells true faults left number1 skipped1))) (sym counts.0) tt
counted_err ticks names (j.Bad fault) tells false result faults number number1 skipped skipped1 all left next counted counts =
    subst (λ r. IfErr r (λ fault. FailsItem ticks names fault (shown tells false faults all number skipped) (shown tells false faults left number1 skipped1))) (sym counts.0)
    (refl, λ told. first_next ticks names false number number1 skipped (j.Bad fault) all left counted (next told) ∙ ap (λ s. found_before (Err fault) (shown tells false faults left number1 s)) (sym counts.1))

none_left : (passing : Bool) → lines_left passing [] ≡ []
none_left true = refl
none_left false = refl

first_none : (ticks : Bool) (names : List (List ℕ)) (skips : Bool) (number skipped : ℕ) → first_of ticks names skips number skipped [] ≡ record { what = Ok None; number = number; skipped = skipped; left = [] }
unfolding first_of
first_none ticks names skips number skipped = refl

-- at the end nothing is first, and nothing is left
pub finds_nothing : (ticks : Bool) (names : List (List ℕ)) (tells skips : Bool) (faults number skipped : ℕ) (h g : Held) (content : List ℕ) → g ≡ h → h.bytes ≡ [] → content ≡ [] → first_of ticks names skips number skipped (left_in h content) ≡ found_before (Ok None) (shown tells skips faults (left_in g content) number skipped)
finds_nothing ticks names tells skips faults number skipped h g content same held over =
    let none : left_in h content ≡ [] = ap (λ xs. lines_left h.passing (xs ++ content)) held ∙ ap (λ xs. lines_left h.passing xs) over ∙ none_left h.passing in
    ap (first_of ticks names skips number skipped) none ∙ first_none ticks names skips number skipped
    ∙ ap (λ left. found_before (Ok None) (shown tells skips faults left number skipped)) (sym none)
    ∙ ap (λ k. found_before (Ok None) (shown tells skips faults (left_in k content) number skipped)) (sym same)

-- what was passed over so far: what is first has not changed
pub record Passes (ticks : Bool) (names : List (List ℕ)) (old new : Unread) : Type 0 where
  pub tells : new.tells ≡ old.tells
  pub skips : new.skips ≡ old.skips
  pub faults : new.faults ≡ old.faults
  pub first : old.tells ≡ true → first_in ticks names old ≡ first_in ticks names new

-- what is first comes behind what was passed over
pub finds_behind : (ticks : Bool) (names : List (List ℕ)) (came : Option Item) (a b c : Unread) → Passes ticks names a b → FindsItem ticks names came b c → FindsItem ticks names came a c
finds_behind ticks names came a b c passed finds told = passed.first told ∙ finds (passed.tells ∙ told)

-- so does a fault
pub fails_behind : (ticks : Bool) (names : List (List ℕ)) (fault : StreamFault) (a b c : Unread) → Passes ticks names a b → FailsItem ticks names fault b c → FailsItem ticks names fault a c
fails_behind ticks names (f.Bad line fault) a b c passed fails = (fails.0, λ told. passed.first told ∙ fails.1 (passed.tells ∙ told))
fails_behind ticks names f.ReadFailed a b c passed fails = λ told. passed.first told ∙ fails (passed.tells ∙ told)
fails_behind ticks names f.NoMemory a b c passed fails = λ told. passed.first told ∙ fails (passed.tells ∙ told)

-- one turn more was passed over
pub passes_more : (ticks : Bool) (names : List (List ℕ)) (a b c : Unread) → Passes ticks names a b → Turns ticks names t.More b c → c.tells ≡ b.tells → c.skips ≡ b.skips → c.faults ≡ b.faults → Passes ticks names a c
passes_more ticks names a b c passed turn tells skips faults = record {
  tells = tells ∙ passed.tells;
  skips = skips ∙ passed.skips;
  faults = faults ∙ passed.faults;
  first = λ told. passed.first told ∙ turn (passed.tells ∙ told);
}

-- what may end a reading does not change with what was passed over
pub ends_behind : (ticks : Bool) (names : List (List ℕ)) (fault : StreamFault) (a b : Unread) → Passes ticks names a b → MayEnd fault b.skips → MayEnd fault a.skips
ends_behind ticks names fault a b passed = subst (λ skips. MayEnd fault skips) passed.skips

-- Of what is held, the line at the front is the first of those that are left.
use Rattle.std.proofs.Common.{◌≡◌, ℕ, ◌<◌, Bool, true, false, List, [], ◌∷◌, ◌++◌, Some, drop, length, refl, sym, ap, ◌∙◌, arith, cond}
use Rattle.std.specs.Prelude.{Err}
use Rattle.std.specs.Str.Lines.{lines}
use Rattle.std.proofs.lemmas.Bool.{lt-ltb}
use Rattle.tk_stream.specs.Front.{IsLine, IsTooLong}
use Rattle.tk_stream.specs.Line.{judged_as, line_of, line_entry}
use Rattle.tk_stream.specs.LineBuffer.{Held, left_in}
use Rattle.tk_stream.specs.Lines.{behind_feed, lines_left}
use Rattle.tk_stream.specs.Taking.{IsNext}
use Rattle.tk_stream.specs.declared.line.Judged.{Judged}
use Rattle.tk_stream.specs.declared.line.Judged.TheVariants as j
use Rattle.tk_stream.specs.declared.line_fault.LineFault.TheVariants as l

none_first : (line : List ℕ) (left : List (List ℕ)) → lines [] ≡ line ∷ left → ⊥
none_first line left is = absurd (cc)

-- inside a line that is passed over nothing is held, and so nothing is at the front
not_passing : (passing : Bool) (held : List ℕ) → (passing ≡ true → held ≡ []) → ((h : List ℕ) → held ≡ h → h ≡ [] → ⊥) → passing ≡ false
not_passing true held none some = absurd (some held refl (none refl))
not_passing false held none some = refl

-- a line at the front that was judged is the next
pub line_next : (ticks : Bool) (names : List (List ℕ)) (judged : Judged) (old new : Held) (line content : List ℕ) (taken : ℕ) (ended : Bool) → (old.passing ≡ true → old.bytes ≡ []) → IsLine line old.bytes taken ended → judged_as judged ≡ line_of ticks names line → new.bytes ≡ drop taken old.bytes → new.passing ≡ old.passing → (ended ≡ true → content ≡ []) → IsNext ticks names judged (left_in old content) (left_in new content)
line_next ticks names judged old new line content taken ended none front is bytes passing last =
    let goes : old.passing ≡ false = not_passing old.passing old.bytes none (λ h same empty. none_first line (lines (drop taken old.bytes ++ [])) (sym (ap (λ xs. lines (xs ++ [])) (same ∙ empty)) ∙ front.first [] (λ _. refl))) in
    record {
      line = line;
      first =
          ap (λ b. lines_left b (old.bytes ++ content)) goes
          ∙ front.first content last
          ∙ ap (λ xs. line ∷ lines (xs ++ content)) (sym bytes)
          ∙ ap (λ b. line ∷ lines_left b (new.bytes ++ content)) (sym (passing ∙ goes));
      is = is;
    }

long_is : (ticks : Bool) (names : List (List ℕ)) (line : List ℕ) → 65536 < length line → Some (Err l.TooLong) ≡ line_of ticks names line
long_is ticks names [] long = absurd (omega arith)
long_is ticks names (b ∷ bytes) long = ap (λ (t : Bool). cond t (Some (Err l.TooLong)) (Some (line_entry ticks names (b ∷ bytes)))) (sym (lt-ltb 65536 (length (b ∷ bytes)) long))

-- a line that is too long is the next, and its rest is passed over
pub long_next : (ticks : Bool) (names : List (List ℕ)) (old new : Held) (content : List ℕ) → (old.passing ≡ true → old.bytes ≡ []) → IsTooLong old.bytes → new.bytes ≡ [] → new.passing ≡ true → IsNext ticks names (j.Bad l.TooLong) (left_in old content) (left_in new content)
long_next ticks names old new content none long bytes passing =
    let first = long content in
    let goes : old.passing ≡ false = not_passing old.passing old.bytes none (λ h same empty. let nothing = long [] in none_first nothing.0 (lines (behind_feed [])) (sym (ap (λ xs. lines (xs ++ [])) (same ∙ empty)) ∙ nothing.2)) in
    record {
      line = first.0;
      first =
          ap (λ b. lines_left b (old.bytes ++ content)) goes
          ∙ first.2
          ∙ ap (λ xs. first.0 ∷ lines (behind_feed (xs ++ content))) (sym bytes)
          ∙ ap (λ b. first.0 ∷ lines_left b (new.bytes ++ content)) (sym passing);
      is = long_is ticks names first.0 first.1;
    }

-- Each line of the sets of a text tells a publication.
use Rattle.std.proofs.Common.{◌≡◌, ℕ, Bool, List, [], ◌∷◌, ◌++◌, All, Option, Some, None, refl, sym, subst, ap, ◌∙◌, arith, codes}
use Rattle.std.specs.List.{concat, cons_option, list_any}
use Rattle.std.proofs.lemmas.List.{append-nil, append_assoc}
use Rattle.std.proofs.lemmas.List.Elements.{All-push}
use Rattle.tk_input.specs.Sink.{Grows}
use Rattle.tk_journal.specs.Line.{line_text}
use Rattle.tk_journal.specs.Walks.{walk}
use Rattle.tk_journal.specs.declared.noted.Noted.{Noted}
use Rattle.tk_journal.specs.declared.noted.Noted.TheVariants as n
use Rattle.tk_journal.specs.declared.publication.Publication.{Publication}
use Rattle.tk_window.specs.TickEnds.{ticks_at}
use Rattle.tk_ledger.specs.Text.{ticks_text, is_tuned, line_with, lines_by, lines_of, text_of, ticked_text_of}
use Rattle.tk_load.specs.Surroundings.{Output}
use Rattle.tk_story.specs.Story.{StoryView}
use Rattle.tk_story.specs.Headline.{ArePublishedValid}
use Rattle.tk_words.specs.Words.{Asked}
use Rattle.tk_run.specs.Ends.{served, text_with, yes_text}
use Rattle.tk_run.specs.Printed.{PrintsValidSets, TellsAValidSet, ledger_behind}

module _ (ends : Option (List (List (List ℕ)))) (names : List (List ℕ)) (s : StoryView) (valid : ArePublishedValid s) where
  abbrev Tells : List ℕ → Type 0
  Tells = TellsAValidSet ends names s

  -- the line of a publication
  published : (o : Option (List (List (List ℕ)))) → o ≡ ends → (before : List Noted) (p : Publication) (after : List Noted) (lines : List (List ℕ)) → s.journal ≡ before ++ n.Published p ∷ after → All Tells lines
      → All Tells (lines ++ cons_option (line_with o names (list_any is_tuned before) (n.Published p)) [])
  published None same before p after lines is all =
      All-push Tells lines (line_text names (list_any is_tuned before) p) all (subst (λ (o : Option (List (List (List ℕ)))). TellsAValidSet o names s (line_text names (list_any is_tuned before) p)) same (record {
        before = before;
        publication = p;
        after = after;
        stands = is;
        line_is = sym (append-nil (line_text names (list_any is_tuned before) p));
        valid = valid before after p is;
      }))
  published (Some some) same before p after lines is all =
      All-push Tells lines (line_text names (list_any is_tuned before) p ++ ticks_text (ticks_at some p.cut)) all (subst (λ (o : Option (List (List (List ℕ)))). TellsAValidSet o names s (line_text names (list_any is_tuned before) p ++ ticks_text (ticks_at some p.cut))) same (record {
        before = before;
        publication = p;
        after = after;
        stands = is;
        line_is = refl;
        valid = valid before after p is;
      }))

  nothing : (o : Option (List ℕ)) (lines : List (List ℕ)) → o ≡ None → All Tells lines → All Tells (lines ++ cons_option o [])
  nothing None lines none all = subst (All Tells) (sym (append-nil lines)) all
  nothing (Some line) lines none all = absurd (cc)

  unpublished : (o : Option (List (List (List ℕ)))) (tuned : Bool) (e : Noted) (lines : List (List ℕ)) → ((p : Publication) → e ≡ n.Published p → ⊥) → All Tells lines → All Tells (lines ++ cons_option (line_with o names tuned e) [])
  unpublished None tuned (n.Got mon frame) lines other all = nothing None lines refl all
  unpublished None tuned (n.Sent mon frame) lines other all = nothing None lines refl all
  unpublished None tuned (n.Published p) lines other all = absurd (other p refl)
  unpublished None tuned (n.Tuned k epsilon) lines other all = nothing None lines refl all
  unpublished (Some some) tuned (n.Got mon frame) lines other all = nothing None lines refl all
  unpublished (Some some) tuned (n.Sent mon frame) lines other all = nothing None lines refl all
  unpublished (Some some) tuned (n.Published p) lines other all = absurd (other p refl)
  unpublished (Some some) tuned (n.Tuned k epsilon) lines other all = nothing None lines refl all

  -- one more entry
  one_more : (before : List Noted) (e : Noted) (after : List Noted) (lines : List (List ℕ)) → s.journal ≡ before ++ e ∷ after → All Tells lines
      → All Tells (lines ++ cons_option (line_with ends names (list_any is_tuned before) e) [])
  one_more before (n.Published p) after lines is all = published ends refl before p after lines is all
  one_more before (n.Got mon frame) after lines is all = unpublished ends _ (n.Got mon frame) lines (λ p same. cc (same)) all
  one_more before (n.Sent mon frame) after lines is all = unpublished ends _ (n.Sent mon frame) lines (λ p same. cc (same)) all
  one_more before (n.Tuned k epsilon) after lines is all = unpublished ends _ (n.Tuned k epsilon) lines (λ p same. cc (same)) all

  all_on : (before rest : List Noted) (lines : List (List ℕ)) → s.journal ≡ before ++ rest → All Tells lines
      → All Tells (walk (λ front found e. found ++ cons_option (line_with ends names (list_any is_tuned front) e) []) before lines rest)
  all_on before [] lines is all = all
  all_on before (e ∷ rest) lines is all =
      all_on (before ++ e ∷ []) rest (lines ++ cons_option (line_with ends names (list_any is_tuned before) e) [])
      (is ∙ sym (append_assoc before (e ∷ []) rest)) (one_more before e rest lines is all)

  pub each_line : All Tells (lines_by (line_with ends names) s.journal)
  each_line = all_on [] s.journal [] refl (λ i d within. absurd (omega (arith, within)))

-- the text of a story is these lines, and its ledger
pub text_is : (ends : Option (List (List (List ℕ)))) (names : List (List ℕ)) (s : StoryView) → text_with ends names s ≡ concat (lines_by (line_with ends names) s.journal) ++ ledger_behind s
unfolding text_of ticked_text_of lines_of
text_is None names s = refl
text_is (Some ends) names s = refl

-- that of a check is these lines, and yes
pub yes_is : (names : List (List ℕ)) (s : StoryView) → yes_text names s ≡ concat (lines_by (line_with None names) s.journal) ++ codes "yes\n"
unfolding lines_of
yes_is names s = refl

-- so what was written prints valid sets
pub prints : (ends : Option (List (List (List ℕ)))) (names : List (List ℕ)) (s : StoryView) (rest text : List ℕ) (output : Output) → ArePublishedValid s
    → text ≡ concat (lines_by (line_with ends names) s.journal) ++ rest → Grows output.before output.after text → PrintsValidSets ends names s rest output
prints ends names s rest text output valid is written = record {
  lines = lines_by (line_with ends names) s.journal;
  each = each_line ends names s valid;
  written = subst (Grows output.before output.after) is written;
}

-- what words ask of a run is one thing
pub asked_once : (words : Option Asked) (asked found : Asked) → words ≡ Some asked → served (Some asked) ≡ Some asked → served words ≡ Some found → found ≡ asked
asked_once words asked found is here served_is =
    let one : served (Some asked) ≡ Some found = sym (ap served is) ∙ served_is in
    let same : Some asked ≡ Some found = sym here ∙ one in cc (same)

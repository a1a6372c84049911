-- A text that is written piece by piece: what is done, and the rest.
use Rattle.std.proofs.Common.{◌≡◌, ℕ, ◌+◌, ◌<◌, ◌≤◌, List, [], ◌∷◌, ◌++◌, length, drop, get_or, Option, Some, Result, Ok, Err, refl, ap, sym, subst, ◌∙◌, append_assoc, append-nil}
use Rattle.std.specs.Prelude.{OnErr, OnOk}
use Rattle.std.proofs.lemmas.List.{at_drop_all, drop_more}
use Rattle.tk_input.specs.Sink.{Grows, GrowsByFront}
use Rattle.tk_input.specs.declared.event.Event.{Event}
use Rattle.tk_story.specs.Story.{StoryView}
use Rattle.tk_show.specs.Text.{Telling, line_of, lines_from, mon_of, next_telling}
use Rattle.tk_ledger.proofs.SinkLemmas.{front_more, front_of, grows_more, grows_none, put_done, put_failed}

-- an output has grown by all of a text that stands before the rest
pub record Goes (old now : Option (List ℕ)) (whole rest : List ℕ) : Type 0 where
  pub done : List ℕ
  pub split : whole ≡ done ++ rest
  pub written : Grows old now done

-- nothing is written yet
pub begins : (old : Option (List ℕ)) (whole : List ℕ) → Goes old old whole whole
begins old whole = record { done = []; split = refl; written = grows_none old }

-- one more piece is
pub goes_further : (old now new : Option (List ℕ)) (whole piece rest bytes : List ℕ) → bytes ≡ piece → Goes old now whole (piece ++ rest) → Grows now new bytes → Goes old new whole rest
goes_further old now new whole piece rest bytes is goes put = record {
  done = goes.done ++ piece;
  split = goes.split ∙ sym (append_assoc goes.done piece rest);
  written = grows_more old now new goes.done piece goes.written (put_done now new bytes piece is put);
}

-- no more is
pub stops : (old now : Option (List ℕ)) (whole rest : List ℕ) → Goes old now whole rest → GrowsByFront old now whole
stops old now whole rest goes = subst (λ (l : List ℕ). GrowsByFront old now l) (sym goes.split) (front_of old now goes.done rest goes.written)

-- the put of the next piece failed
pub fails : (old now new : Option (List ℕ)) (whole piece rest bytes : List ℕ) → bytes ≡ piece → Goes old now whole (piece ++ rest) → GrowsByFront now new bytes → GrowsByFront old new whole
fails old now new whole piece rest bytes is goes put =
    subst (λ (l : List ℕ). GrowsByFront old new l) (sym goes.split)
    (front_more old now new goes.done (piece ++ rest) goes.written (put_failed now new bytes piece rest is put))

-- nothing is left
pub ends : (old now : Option (List ℕ)) (whole rest : List ℕ) → rest ≡ [] → Goes old now whole rest → Grows old now whole
ends old now whole rest none goes =
    subst (λ (l : List ℕ). Grows old now l) (sym (goes.split ∙ ap (λ (l : List ℕ). goes.done ++ l) none ∙ append-nil goes.done)) goes.written

-- a call wrote the rest
pub rest_ok : {T E : Type 0} (result : Result T E) (old now new : Option (List ℕ)) (whole rest : List ℕ) → Goes old now whole rest → OnOk result (Grows now new rest) → OnOk result (Grows old new whole)
rest_ok (Ok done) old now new whole rest goes put = subst (λ (l : List ℕ). Grows old new l) (sym goes.split) (grows_more old now new goes.done rest goes.written put)
rest_ok (Err fault) old now new whole rest goes put = tt

-- or a front of it
pub rest_err : {T E : Type 0} (result : Result T E) (old now new : Option (List ℕ)) (whole rest : List ℕ) → Goes old now whole rest → OnErr result (GrowsByFront now new rest) → OnErr result (GrowsByFront old new whole)
rest_err (Ok done) old now new whole rest goes put = tt
rest_err (Err fault) old now new whole rest goes put = subst (λ (l : List ℕ). GrowsByFront old new l) (sym goes.split) (front_more old now new goes.done rest goes.written put)

module _ (names : List (List ℕ)) (s : StoryView) where
  -- the lines that are left begin with that of the next event
  pub next_lines : (t u : Telling) (events : List Event) (i : ℕ) (e : Event) → i < length events → e ≡ get_or events i e → u ≡ next_telling s t (mon_of e)
      → lines_from names s t (drop i events) ≡ line_of names s t e ++ lines_from names s u (drop (i + 1) events)
  next_lines t u events i e within at is =
      ap (λ (l : List Event). lines_from names s t l) (drop_more events i e within ∙ ap (λ (x : Event). x ∷ drop (i + 1) events) (sym at))
      ∙ ap (λ (v : Telling). line_of names s t e ++ lines_from names s v (drop (i + 1) events)) (sym is)

  -- at the end no line is
  pub no_lines : (t : Telling) (events : List Event) (i : ℕ) → length events ≤ i → lines_from names s t (drop i events) ≡ []
  no_lines t events i past = at_drop_all (lines_from names s t) events i past

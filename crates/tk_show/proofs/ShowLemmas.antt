-- The text of a run in its three parts: settings, opening and events.
use Rattle.std.proofs.Common.{◌≡◌, ℕ, List, ◌++◌, Option, ap, ◌∙◌}
use Rattle.tk_input.specs.Sink.{Grows, GrowsByFront}
use Rattle.tk_input.specs.declared.event.Event.{Event}
use Rattle.tk_journal.specs.declared.noted.Noted.{Noted}
use Rattle.tk_story.specs.Kept.{KeptStory}
use Rattle.tk_show.specs.Turned.{batch_length}
use Rattle.tk_show.specs.Text.{Telling, beginning, begun, lines_from, opening_text, settings_text, shown_text}
use Rattle.tk_show.proofs.WritingLemmas.{Goes, begins, fails, goes_further}

-- the text of the opening, and that of the events
abbrev pub opening : List (List ℕ) → KeptStory → List ℕ
opening names kept = opening_text names kept.story.journal

abbrev pub lines : List (List ℕ) → KeptStory → List ℕ
lines names kept = lines_from names kept.story (beginning kept.story) kept.events

module _ (names : List (List ℕ)) (kept : KeptStory) where
  module _ (a b : Option (List ℕ)) (bytes : List ℕ) (is : bytes ≡ settings_text names kept.story.settings) where
    -- the settings are written
    pub first : Grows a b bytes → Goes a b (shown_text names kept) (opening names kept ++ lines names kept)
    unfolding shown_text
    first put = goes_further a a b (shown_text names kept) (settings_text names kept.story.settings) (opening names kept ++ lines names kept) bytes is (begins a (shown_text names kept)) put

    -- they were not
    pub first_fails : GrowsByFront a b bytes → GrowsByFront a b (shown_text names kept)
    unfolding shown_text
    first_fails put = fails a a b (shown_text names kept) (settings_text names kept.story.settings) (opening names kept ++ lines names kept) bytes is (begins a (shown_text names kept)) put

  -- what is told from the beginning is told of all events
  pub lines_are : (t : Telling) (from : List (List ℕ)) (entries : ℕ) (journal : List Noted) (events : List Event) → t ≡ begun from entries → from ≡ kept.story.from → entries ≡ batch_length journal
      → journal ≡ kept.story.journal → events ≡ kept.events → lines_from names kept.story t events ≡ lines names kept
  lines_are t from entries journal events is starts long lent all =
      ap (λ (u : Telling). lines_from names kept.story u events) (is ∙ ap (λ (f : List (List ℕ)). begun f entries) starts ∙ ap (begun kept.story.from) (long ∙ ap batch_length lent))
      ∙ ap (lines_from names kept.story (beginning kept.story)) all

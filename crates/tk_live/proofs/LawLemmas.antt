-- An input that the files tell is run live.
use Rattle.std.proofs.Common.{◌≡◌, ℕ, true, List, Some, Option, Result, Err, is_ok, refl, sym, subst}
use Rattle.tk_words.specs.Words.{LiveWords, words_of}
use Rattle.tk_load.proofs.FaultLemmas.{none_is_meant}
use Rattle.tk_load.specs.Faults.{Fault}
use Rattle.tk_load.specs.Input.{input_of}
use Rattle.tk_load.specs.Laws.{WhatIsToldIsMeant}
use Rattle.tk_load.specs.Reads.{Loads, Tells}
use Rattle.tk_load.specs.Told.{read_by}
use Rattle.tk_load.specs.declared.status.Status.{Status}
use Rattle.tk_load.specs.declared.status.Status.TheVariants as s
use Rattle.tk_story.specs.declared.ends.Ends.{Ends}
use Rattle.tk_live.specs.Laws.{GivesInput, IsLived}
use Rattle.tk_live.specs.Lived.{TellsEnds}
use Rattle.tk_live.specs.Serving.{EndsWords, served}
use Rattle.tk_live.specs.Serving.EndsWords.{Ran, Refused, Unmet, Unread}
use Rattle.tk_live.specs.Traffic.{LiveSurroundings}
use Rattle.tk_live.specs.declared.outcome.LiveOutcome.{LiveOutcome}

meant_is_lived : {V : Type 0} (meant : Result V Fault) (status : Status) (ends : Option Ends) → is_ok meant ≡ true → Tells status meant → IsLived status ends
meant_is_lived meant (s.ReadFault file) ends ok tells = absurd (none_is_meant meant _ ok tells)
meant_is_lived meant (s.BadInput file line kind) ends ok tells = absurd (none_is_meant meant _ ok tells)
meant_is_lived meant (s.TooGreat mon obj) ends ok tells = absurd (none_is_meant meant _ ok tells)
meant_is_lived meant s.NoMemory ends ok tells = tt
meant_is_lived meant s.Done ends ok tells = absurd tells
meant_is_lived meant s.Usage ends ok tells = absurd tells
meant_is_lived meant s.WriteFault ends ok tells = absurd tells
meant_is_lived meant s.LinkFault ends ok tells = absurd tells
meant_is_lived meant (s.LinkDiffers difference) ends ok tells = absurd tells
meant_is_lived meant (s.BadTrace file fault) ends ok tells = absurd tells

-- a run whose links did not fail, and whose output was written
status_is_lived : (status : Status) (ends : Option Ends) → (status ≡ s.LinkFault → ⊥) → (status ≡ s.WriteFault → ⊥) → TellsEnds status ends → IsLived status ends
status_is_lived s.Done ends linked written tells = tt
status_is_lived s.NoMemory ends linked written tells = tt
status_is_lived (s.LinkDiffers difference) ends linked written tells = tells
status_is_lived s.LinkFault ends linked written tells = absurd (linked refl)
status_is_lived s.WriteFault ends linked written tells = absurd (written refl)
status_is_lived s.Usage ends linked written tells = absurd tells
status_is_lived (s.ReadFault file) ends linked written tells = absurd tells
status_is_lived (s.BadInput file line kind) ends linked written tells = absurd tells
status_is_lived (s.TooGreat mon obj) ends linked written tells = absurd tells
status_is_lived (s.BadTrace file fault) ends linked written tells = absurd tells

pub input_is_lived : WhatIsToldIsMeant input_of → (words : List (List ℕ)) (asked : LiveWords) (met : LiveSurroundings) (contents : List ℕ → List ℕ) (outcome : LiveOutcome) → served (words_of words) ≡ Some asked → GivesInput met contents asked
    → (outcome.status ≡ s.LinkFault → ⊥) → (outcome.status ≡ s.WriteFault → ⊥) → EndsWords words met outcome → IsLived outcome.status outcome.ends
input_is_lived law words asked met contents outcome understood given linked written (Refused none usage unstarted) = absurd (cc (none, understood))
input_is_lived law words asked met contents outcome understood given linked written (Unmet is unstarted) = subst (λ st. IsLived st outcome.ends) (sym is) tt
input_is_lived law words asked met contents outcome understood given linked written (Unread found is loads unstarted) =
    let same : found ≡ asked = cc (is, understood) in
    let here = subst (λ (a : LiveWords). Loads met.reads a.sources (Err outcome.status)) same loads in
    meant_is_lived (input_of (read_by contents asked.sources)) outcome.status outcome.ends given.meant (law met.reads contents asked.sources (Err outcome.status) given.told here)
input_is_lived law words asked met contents outcome understood given linked written (Ran found input is loads run) =
    status_is_lived outcome.status outcome.ends linked written run.differs

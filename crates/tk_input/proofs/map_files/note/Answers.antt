use Rattle.std.proofs.Common.{◌≡◌, ℕ, max, Global, Result, Err, Vec, arith, sym, subst, ap, ◌∙◌}
use Rattle.tk_input.specs.MapFiles.{faults_after, longest_after}
use Rattle.tk_input.specs.Tallies.{Notes, faults_of, longest_of}
use Rattle.tk_input.specs.declared.files.FileFault.{FileFault}
use Rattle.tk_input.specs.declared.files.FileFault.TheVariants.{NoMemory}
use Rattle.tk_input.proofs.CountLemmas.{noted_kept}
use Rattle.tk_input.proofs.CountedLemmas.{faults_now}
use Rattle.tk_input.proofs.map_files.note.Goals as goal

pub returns-in-Ok-clause-notes : goal.returns-in-Ok-clause-notes
returns-in-Ok-clause-notes c =
    let old = c.args.tallies.now in
    let new = c.note_length.new.self in
    let name = c.args.name.now in
    subst (λ (r : Result (Vec ℕ Global) FileFault). Notes old new name (faults_after r (faults_of old name)) (longest_after r (longest_of old name))) (sym c.in-Ok.is)
    (subst (λ (n : ℕ). Notes old new name (faults_of old name) (max (longest_of old name) n)) (c.len.ensures ∙ c.in-Ok.copy.ok.0) c.note_length.ensures)

pub returns-in-Ok-clause-kept : goal.returns-in-Ok-clause-kept
returns-in-Ok-clause-kept c = omega (arith, faults_now _ _ _ _ _ c.note_length.ensures)

pub returns-in-Err-TooLong-clause-kept : goal.returns-in-Err-TooLong-clause-kept
returns-in-Err-TooLong-clause-kept c = omega (arith, faults_now _ _ _ _ _ c.note_length-in-Err-TooLong.ensures)

pub returns-in-Err-NoMemory-clause-notes : goal.returns-in-Err-NoMemory-clause-notes
returns-in-Err-NoMemory-clause-notes c =
    let old = c.args.tallies.now in
    let name = c.args.name.now in
    let named : c.in-Err-NoMemory.field-0 ≡ NoMemory = rw c.in-Err-NoMemory.is at c.in-Err-NoMemory.field-0-is in
    let is : c.args.outcome.now ≡ Err NoMemory = c.in-Err-NoMemory.is ∙ ap (λ (e : FileFault). Err e) named in
    subst (λ (r : Result (Vec ℕ Global) FileFault). Notes old old name (faults_after r (faults_of old name)) (longest_after r (longest_of old name))) (sym is) (noted_kept old name c.requires)

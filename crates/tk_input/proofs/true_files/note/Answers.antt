use Rattle.std.proofs.Common.{◌≡◌, max, Result, Err, arith, sym, subst, ap, ◌∙◌}
use Rattle.tk_input.specs.MapFiles.{faults_after}
use Rattle.tk_input.specs.Tallies.{Notes, faults_of, longest_of}
use Rattle.tk_input.specs.declared.files.FileFault.{FileFault}
use Rattle.tk_input.specs.declared.files.FileFault.TheVariants.{NoMemory, TooLong}
use Rattle.tk_input.proofs.CountedLemmas.{faults_now}
use Rattle.tk_input.proofs.true_files.note.Goals as goal

pub returns-in-Ok-clause-notes : goal.returns-in-Ok-clause-notes
returns-in-Ok-clause-notes c =
    let old = c.args.tallies.now in
    let name = c.args.name.now in
    subst (λ (r : Result Unit FileFault). Notes old c.note_length.new.self name (faults_after r (faults_of old name)) (max (longest_of old name) c.args.taken)) (sym c.in-Ok.is) c.note_length.ensures

pub returns-in-Ok-clause-kept : goal.returns-in-Ok-clause-kept
returns-in-Ok-clause-kept c = omega (arith, faults_now _ _ _ _ _ c.note_length.ensures)

pub returns-in-Err-TooLong-clause-notes : goal.returns-in-Err-TooLong-clause-notes
returns-in-Err-TooLong-clause-notes c =
    let old = c.args.tallies.now in
    let name = c.args.name.now in
    let named : c.in-Err-TooLong.field-0 ≡ TooLong = rw c.in-Err-TooLong.is at c.in-Err-TooLong.field-0-is in
    let is : c.args.outcome.now ≡ Err TooLong = c.in-Err-TooLong.is ∙ ap (λ (e : FileFault). Err e) named in
    subst (λ (r : Result Unit FileFault). Notes old c.note_length.new.self name (faults_after r (faults_of old name)) (max (longest_of old name) c.args.taken)) (sym is) c.note_length.ensures

pub returns-in-Err-TooLong-clause-kept : goal.returns-in-Err-TooLong-clause-kept
returns-in-Err-TooLong-clause-kept c = omega (arith, faults_now _ _ _ _ _ c.note_length.ensures)

pub returns-in-Err-NoMemory-clause-notes : goal.returns-in-Err-NoMemory-clause-notes
returns-in-Err-NoMemory-clause-notes c =
    let old = c.args.tallies.now in
    let name = c.args.name.now in
    let named : c.in-Err-NoMemory.field-0 ≡ NoMemory = rw c.in-Err-NoMemory.is at c.in-Err-NoMemory.field-0-is in
    let is : c.args.outcome.now ≡ Err NoMemory = c.in-Err-NoMemory.is ∙ ap (λ (e : FileFault). Err e) named in
    subst (λ (r : Result Unit FileFault). Notes old c.note_length.new.self name (faults_after r (faults_of old name)) (max (longest_of old name) c.args.taken)) (sym is) c.note_length.ensures

pub returns-in-Err-NoMemory-clause-kept : goal.returns-in-Err-NoMemory-clause-kept
returns-in-Err-NoMemory-clause-kept c = omega (arith, faults_now _ _ _ _ _ c.note_length.ensures)

use Rattle.std.proofs.Common.{◌≡◌, ℕ, List, Result, Ok, Bor, option_map, arith, sym, subst, ap, ◌∙◌}
use Rattle.std.specs.Prelude.{◌==◌, IfErr, IfOk}
use Rattle.std.specs.List.{list_any}
use Rattle.tk_input.specs.Files.{one_more}
use Rattle.tk_input.specs.MapFiles.{Faults, MapFilesView, content_of, faults_after, files_of, given, longest_after, read_of, reads_after}
use Rattle.tk_input.specs.Tallies.{Count, Notes, faults_of, longest_of}
use Rattle.tk_input.specs.declared.files.FileFault.{FileFault}
use Rattle.tk_input.proofs.CountedLemmas.{content_long, copy_same, copy_short, copy_taken, faults_beside, faults_now, limit_taken, longest_beside, longest_now, more_taken, noted_behind, on_ok, takes_no_more}
use Rattle.tk_input.proofs.FilesLemmas.{given_is}
use Rattle.tk_input.proofs.map_files.MapFilesFiles.read_all.Goals as goal

-- what is given is what the read gives
read : (c : goal.After-note) → given c.contains-fails.result (option_map (λ (s : Bor (List ℕ)). s.now) c.file_of.result) ≡ read_of c.args.self.now c.args.name.now
read c =
    let name = c.args.name.now in
    given_is c.args.self.now name c.contains-fails.result c.saturating_add.result c.deref.result.now _ c.contains-fails.ensures.value
    (c.saturating_add.ensures ∙ ap (λ (m : MapFilesView). one_more m.reads) c.self.view_is)
    (c.deref.ensures.value ∙ ap (λ (m : MapFilesView). m.fails) c.self.view_is)
    (c.file_of.ensures ∙ ap (λ fs. content_of (files_of fs) name) c.as_slice.ensures.value ∙ ap (λ (m : MapFilesView). content_of m.files name) c.self.view_is)

-- the room that was taken leaves the counts
room : (c : goal.After-note) → Notes c.self.inside.tallies c.reserve.new.self c.args.name.now (faults_of c.self.inside.tallies c.args.name.now) (longest_of c.self.inside.tallies c.args.name.now)
room c = on_ok c.reserve.result _ (sym c.is_err.ensures.value ∙ c.if-is_err.false) c.reserve.ensures.ok

notes : (c : goal.After-note) → Notes c.args.self.now.counts c.note.new.tallies c.args.name.now (faults_after c.copy_of-outcome.result (faults_of c.args.self.now.counts c.args.name.now)) (longest_after c.copy_of-outcome.result (longest_of c.args.self.now.counts c.args.name.now))
notes c =
    let name = c.args.name.now in
    let r = c.copy_of-outcome.result in
    subst (λ (counts : List Count). Notes counts c.note.new.tallies name (faults_after r (faults_of counts name)) (longest_after r (longest_of counts name))) (ap (λ (m : MapFilesView). m.counts) c.self.view_is)
    (noted_behind (faults_after r) (longest_after r) c.self.inside.tallies c.reserve.new.self c.note.new.tallies name (room c) c.note.ensures.notes)

longest : (c : goal.After-note) → longest_of c.note.new.tallies c.args.name.now ≡ longest_after c.copy_of-outcome.result (longest_of c.args.self.now.counts c.args.name.now)
longest c = longest_now _ _ _ _ _ (notes c)

pub returns-clause-ok : goal.returns-clause-ok
returns-clause-ok c = subst (λ (meant : Result (List ℕ) FileFault). IfOk c.copy_of-outcome.result (λ v. meant ≡ Ok v.items)) (read c) c.copy_of-outcome.ensures.ok

pub returns-clause-err : goal.returns-clause-err
returns-clause-err c = subst (λ (meant : Result (List ℕ) FileFault). IfErr c.copy_of-outcome.result (λ e. Faults e meant)) (read c) c.copy_of-outcome.ensures.err

pub returns-clause-files : goal.returns-clause-files
returns-clause-files c = ap (λ (m : MapFilesView). m.files) c.self.view_is

pub returns-clause-fails : goal.returns-clause-fails
returns-clause-fails c = ap (λ (m : MapFilesView). m.fails) c.self.view_is

pub returns-clause-reads : goal.returns-clause-reads
returns-clause-reads c = c.reads_after-self-inside.ensures ∙ ap (λ (m : MapFilesView). reads_after c.copy_of-outcome.result m.reads) c.self.view_is

pub returns-clause-longest : goal.returns-clause-longest
returns-clause-longest c = longest c

pub returns-clause-counted : goal.returns-clause-counted
returns-clause-counted c = faults_now _ _ _ _ _ (notes c)

pub returns-clause-content : goal.returns-clause-content
returns-clause-content c =
    let m = c.args.self.now in
    copy_same c.copy_of-outcome.result (list_any (λ i. i == one_more m.reads) m.fails) (content_of m.files c.args.name.now) (returns-clause-ok c)

pub returns-clause-told : goal.returns-clause-told
returns-clause-told c = λ other. ap (λ (m : MapFilesView). content_of m.files other) c.self.view_is

pub returns-clause-short : goal.returns-clause-short
returns-clause-short c =
    let m = c.args.self.now in
    copy_short c.copy_of-outcome.result (list_any (λ i. i == one_more m.reads) m.fails) (content_of m.files c.args.name.now) (returns-clause-ok c)

pub returns-clause-too_long : goal.returns-clause-too_long
returns-clause-too_long c =
    let m = c.args.self.now in
    content_long c.copy_of-outcome.result (list_any (λ i. i == one_more m.reads) m.fails) (content_of m.files c.args.name.now) (returns-clause-err c)

pub returns-clause-too_much : goal.returns-clause-too_much
returns-clause-too_much c = limit_taken c.copy_of-outcome.result _ _ (longest c)

pub returns-clause-kept_faults : goal.returns-clause-kept_faults
returns-clause-kept_faults c =
    omega (arith, c.note.ensures.kept, faults_now _ _ _ _ _ (room c), ap (λ (m : MapFilesView). faults_of m.counts c.args.name.now) c.self.view_is)

pub returns-clause-other_faults : goal.returns-clause-other_faults
returns-clause-other_faults c = λ other apart. faults_beside _ _ _ other _ _ (notes c) apart

pub returns-clause-taken : goal.returns-clause-taken
returns-clause-taken c = copy_taken c.copy_of-outcome.result _ _ (longest c)

pub returns-clause-kept_taken : goal.returns-clause-kept_taken
returns-clause-kept_taken c = more_taken c.copy_of-outcome.result _ _ (longest c)

pub returns-clause-no_more : goal.returns-clause-no_more
returns-clause-no_more c =
    let m = c.args.self.now in
    takes_no_more c.copy_of-outcome.result (list_any (λ i. i == one_more m.reads) m.fails) (content_of m.files c.args.name.now) _ _ (longest c) (returns-clause-ok c) (returns-clause-err c)

pub returns-clause-other_taken : goal.returns-clause-other_taken
returns-clause-other_taken c = λ other apart. longest_beside _ _ _ other _ _ (notes c) apart

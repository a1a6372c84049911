use Rattle.std.proofs.Common.{ℕ, Err, Result, ap, inl, refl, ◌∙◌}
use Rattle.std.specs.Global.{Vec}
use Rattle.tk_input.specs.MapFiles.{faults_after}
use Rattle.tk_input.specs.declared.files.FileFault.{FileFault}
use Rattle.tk_load.specs.Input.{bytes_in}
use Rattle.tk_load.specs.Reads.{reads_by}
use Rattle.tk_load.proofs.ReadLemmas.{reads_bytes, reads_too_long, reads_wanting}
use Rattle.tk_load.specs.Faults.{bad_file}
use Rattle.tk_load.specs.declared.status.InputKind.TheVariants.{TooLong}
use Rattle.tk_load.proofs.FailLemmas.{read_stands, tells_other}
use Rattle.tk_load.proofs.FaultLemmas.{tells_of}
use Rattle.tk_load.proofs.reading.read.Goals as goal

pub returns-in-Ok-clause-read : goal.returns-in-Ok-clause-read
returns-in-Ok-clause-read g c = reads_bytes _ (reads_by g.F.Files c.args.files.now c.read_all.new.self) c.args.file.now c.in-Ok.bytes c.in-Ok.ensures.content c.in-Ok.ensures.short

pub returns-in-Err-NoMemory-clause-read : goal.returns-in-Err-NoMemory-clause-read
returns-in-Err-NoMemory-clause-read g c = reads_wanting _ bytes_in (reads_by g.F.Files c.args.files.now c.read_all.new.self) c.args.file.now

pub returns-in-Err-TooLong-clause-read : goal.returns-in-Err-TooLong-clause-read
returns-in-Err-TooLong-clause-read g c = reads_too_long _ (reads_by g.F.Files c.args.files.now c.read_all.new.self) c.args.file.now c.bad_file.result (c.in-Err-TooLong.ensures.too_long (ap (λ (e : FileFault). Err e) c.in-Err-TooLong.field-0-is)) (c.in-Err-TooLong.ensures.too_much (ap (λ (e : FileFault). Err e) c.in-Err-TooLong.field-0-is)) c.bad_file.ensures

pub returns-in-Ok-clause-counts : goal.returns-in-Ok-clause-counts
returns-in-Ok-clause-counts g c = read_stands g.F.Files c.args.files.now c.read_all.new.self c.args.file.now c.read_all.result c.read_all.ensures.counted c.read_all.ensures.other_faults
    (λ old. ap (λ (r : Result (Vec ℕ) FileFault). faults_after r old) c.in-Ok.is)

pub returns-in-Err-NoMemory-clause-counts : goal.returns-in-Err-NoMemory-clause-counts
returns-in-Err-NoMemory-clause-counts g c = inl (read_stands g.F.Files c.args.files.now c.read_all.new.self c.args.file.now c.read_all.result c.read_all.ensures.counted c.read_all.ensures.other_faults
    (λ old. ap (λ (r : Result (Vec ℕ) FileFault). faults_after r old) (c.in-Err-NoMemory.is ∙ ap (λ (e : FileFault). Err e) c.in-Err-NoMemory.field-0-is)))

pub returns-in-Err-TooLong-clause-counts : goal.returns-in-Err-TooLong-clause-counts
returns-in-Err-TooLong-clause-counts g c =
    let reads = reads_by g.F.Files c.args.files.now c.read_all.new.self in
    let fault = bad_file c.args.file.now TooLong in
    let stands = read_stands g.F.Files c.args.files.now c.read_all.new.self c.args.file.now c.read_all.result c.read_all.ensures.counted c.read_all.ensures.other_faults
    (λ old. ap (λ (r : Result (Vec ℕ) FileFault). faults_after r old) (c.in-Err-TooLong.is ∙ ap (λ (e : FileFault). Err e) c.in-Err-TooLong.field-0-is)) in
    tells_other {V = Unit {0}} reads c.bad_file.result (Err fault) (inl stands) (λ n same. cc (same)) (tells_of {V = Unit {0}} c.bad_file.result fault (Err fault) c.bad_file.ensures refl)

use Rattle.std.proofs.Common.{◌≡◌, ℕ, ◌+◌, ◌-◌, ◌<◌, ◌^◌, ◌∙◌, List, [], ◌∷◌, drop, ◌++◌, length, take, ap, sym, subst, arith, sum_by}
use Rattle.std.specs.Prelude.{slice_index_or}
use Rattle.std.proofs.lemmas.List.{length-take, take_all, take_more}
use Rattle.std.proofs.lemmas.List.Sums.{sum_by_push}
use Rattle.tk_journal.specs.declared.noted.Noted.{Noted}
use Rattle.tk_ledger.specs.Counting.{HasRoom, none, with_passed}
use Rattle.tk_ledger.specs.Ledger.{bytes_in, counts_of, frames_at, passed_at}
use Rattle.tk_ledger.specs.declared.counts.Counts.{Counts}
use Rattle.tk_ledger.proofs.FrameLemmas.{counted_all, counts_more, room, written_back}
use Rattle.tk_ledger.proofs.frames.count_frames.Goals as goal

pub count_entry-requires : goal.count_entry-requires
count_entry-requires c =
    let few : length (take c.loop-entry.entry-index c.args.journal.now) < 2 ^ 64 - 1 = omega (arith, length-take c.loop-entry.entry-index c.args.journal.now, c.loop-entry-test.true) in
    let was = c.loop-entry.invariant in
    let old = room c.loop-entry.per.items c.args.monitors (take c.loop-entry.entry-index c.args.journal.now) was.size was.counted few in
    subst (λ (per : List Counts). (i : ℕ) → HasRoom (slice_index_or per i none)) (sym c.deref_mut.ensures.value) old

pub loop-entry-preserved : goal.loop-entry-preserved
loop-entry-preserved c =
    let was = c.loop-entry.invariant in
    let journal = c.args.journal.now in
    let at = c.loop-entry.entry-index in
    let new = c.count_entry.new.per in
    let old = c.loop-entry.per in
    let value = c.deref_mut.ensures.value in
    let ok = old.ok in
    let same : length new ≡ length old.items = c.count_entry.ensures.length ∙ ap (λ (xs : List Counts). length xs) value in
    let all : take old.len (new ++ drop (length new) old.items) ≡ new = written_back new old.items old.len (omega (arith, same, ok.0)) (omega (arith, ok.0)) in
    let more : take (at + 1) journal ≡ take at journal ++ c.entry-item.result ∷ [] =
    take_more journal at c.entry-item.result c.loop-entry-test.true ∙ ap (λ (e : Noted). take at journal ++ e ∷ []) (sym c.entry-item.is) in
    record {
      size = ap (λ (xs : List Counts). length xs) all ∙ same ∙ was.size;
      counted = λ i within.
          ap (λ (xs : List Counts). slice_index_or xs i none) all
          ∙ c.count_entry.ensures.each i (omega (arith, same, was.size, within, c.count_entry.ensures.length))
          ∙ ap (λ (xs : List Counts). with_passed (slice_index_or xs i none) (passed_at (i + 1) c.entry-item.result)) value
          ∙ ap (λ (counts : Counts). with_passed counts (passed_at (i + 1) c.entry-item.result)) (was.counted i within)
          ∙ sym (counts_more (i + 1) journal at c.entry-item.result c.loop-entry-test.true c.entry-item.is);
      bytes = omega (arith, c.in-Some.ensures.1, c.bytes_in.ensures, was.bytes, ap (λ (j : List Noted). sum_by bytes_in j) more, sum_by_push bytes_in (take at journal) c.entry-item.result);
    }

pub returns-clause-per : goal.returns-clause-per
returns-clause-per c =
    let was = c.loop-entry.invariant in
    let whole = take_all c.loop-entry.entry-index c.args.journal.now (omega (arith, c.loop-entry-test.false)) in
    c.new.ensures ∙ counted_all c.loop-entry.per.items c.args.monitors c.args.journal.now was.size (λ i within. was.counted i within ∙ ap (λ (j : List Noted). counts_of (frames_at (i + 1) j)) whole)

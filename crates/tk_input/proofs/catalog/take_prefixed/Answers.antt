use Rattle.std.proofs.Common.{◌≡◌, ◌∷◌, ◌++◌, [], ℕ, Bool, true, false, List, length, take, bytes_eq, sym, ap, ◌∙◌, arith, append-nil}
use Rattle.std.specs.Prelude.{◌==◌, if◌then◌else◌}
use Rattle.std.specs.List.{list_any, starts_with}
use Rattle.std.proofs.lemmas.List.{length-append}
use Rattle.std.proofs.Math.Seq.{take-length}
use Rattle.tk_input.specs.Catalog.{names_of, names_with}
use Rattle.tk_input.proofs.NamesLemmas.{names_of-push}
use Rattle.tk_input.proofs.PrefixLemmas.{fresh_prefix, names_with-more}
use Rattle.tk_input.proofs.catalog.take_prefixed.Goals.{then-starts_with+in_ok-from_slice+in_ok-insert, else-starts_with}
use Rattle.tk_input.proofs.catalog.take_prefixed.Goals as goal

-- a key that begins with the prefix comes behind the others, and another key changes nothing
pub loop-name-preserved : goal.loop-name-preserved
loop-name-preserved c =
    let items = c.args.list.now in
    let i = c.loop-name.name-index in
    let item = c.name-item.result in
    let prefix = c.args.prefix.now in
    let before = c.loop-name.names.keys in
    let distinct = c.requires.differ in
    let starts : c.starts_with.result ≡ starts_with ◌==◌ item.items prefix = c.starts_with.ensures.value ∙ ap (λ (bytes : List ℕ). starts_with ◌==◌ bytes prefix) c.as_slice.ensures.value in
    elim c.if-starts_with.branch [
      | then-starts_with+in_ok-from_slice+in_ok-insert w ↦
          let key = w.in_ok-from_slice.field-0 in
          let bytes : key.items ≡ item.items = w.in_ok-from_slice.ensures.items ∙ w.as_slice-then-starts_with.ensures.value in
          let fresh : list_any (λ k. bytes_eq key.items k.items) before ≡ false =
          ap (λ (bs : List ℕ). list_any (λ k. bytes_eq bs k.items) before) bytes ∙ fresh_prefix prefix items before i item distinct c.loop-name-test.true c.name-item.is c.loop-name.invariant.same in
          let added : w.insert.new.self.keys ≡ before ++ key ∷ [] = w.in_ok-insert.ensures.keys ∙ ap (λ (b : Bool). if b then before else before ++ key ∷ []) fresh in
          rw (w.names-is, added) (record {
            same = names_of-push before key
                ∙ ap (λ (names : List (List ℕ)). names ++ key.items ∷ []) c.loop-name.invariant.same
                ∙ ap (λ (bs : List ℕ). names_with prefix (names_of (take i items)) ++ bs ∷ []) bytes
                ∙ sym (names_with-more prefix items i item true c.loop-name-test.true c.name-item.is (sym w.if-starts_with.true ∙ starts));
            few = omega (arith, length-append before (key ∷ []), c.loop-name.invariant.few);
          })
      | else-starts_with w ↦
          rw w.names-is (record {
            same = c.loop-name.invariant.same ∙ sym (append-nil (names_with prefix (names_of (take i items))))
                ∙ sym (names_with-more prefix items i item false c.loop-name-test.true c.name-item.is (sym w.if-starts_with.false ∙ starts));
            few = omega (arith, c.loop-name.invariant.few);
          })
    ]

pub returns-clause-same : goal.returns-clause-same
returns-clause-same c =
    let list = c.args.list.now in
    let whole : c.loop-name.name-index ≡ length list = omega (arith, c.loop-name-test.false, c.loop-name.auto.name-index-end) in
    c.loop-name.invariant.same
    ∙ ap (λ (n : ℕ). names_with c.args.prefix.now (names_of (take n list))) whole
    ∙ ap (λ ks. names_with c.args.prefix.now (names_of ks)) (take-length list)

pub returns-clause-few : goal.returns-clause-few
returns-clause-few c = omega (arith, c.loop-name.invariant.few, c.loop-name.auto.name-index-end)

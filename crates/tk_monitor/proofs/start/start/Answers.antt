use Rattle.std.proofs.Common.{◌≡◌, ℕ, ◌<◌, ◌∙◌, List, length, get_or, set, ap, sym, subst, arith, rules, inl, inr}
use Rattle.std.specs.Prelude.{replicate}
use Rattle.std.proofs.lemmas.Bool.{cases_eq}
use Rattle.std.proofs.lemmas.List.{length-set, length-replicate, get_or-set_same, get_or-set_other}
use Rattle.std.proofs.lemmas.Grind.{same_number_lists}
use Rattle.tk_base.proofs.ListLemmas.{zeros}
use Rattle.tk_input.specs.Logs.{AreParts}
use Rattle.tk_monitor.specs.Start.{StandsAt}
use Rattle.tk_monitor.proofs.StartLemmas.{stands_size, zero_values}
use Rattle.tk_monitor.proofs.start.start.Goals as goal

pub loop-i-init : goal.loop-i-init
loop-i-init c =
    let n = length c.args.board.now.levels in
    let m = length c.args.parts.now in
    let items : c.in_ok-next.next.items ≡ replicate m 0 = search rules in
    record {
      shape = ap (λ (ns : List ℕ). length ns) items ∙ length-replicate m 0;
      done = λ q below. absurd (omega arith);
      rest = λ q above. ap (λ (ns : List ℕ). get_or ns q 0) items ∙ zeros m q;
      stands = subst (λ (ns : List ℕ). StandsAt n c.args.parts.now ns c.args.board.now) (sym items) (record {
        values = c.requires.zeros.values ∙ sym (zero_values n c.args.parts.now m);
        levels = c.requires.zeros.levels ∙ sym (zero_values n c.args.parts.now m);
        members = c.requires.zeros.members;
      });
    }

pub advance-requires-clause-parts : goal.advance-requires-clause-parts
advance-requires-clause-parts c =
    let n = length c.args.board.now.levels in
    let size : length c.loop-i.board.levels ≡ n = stands_size n c.args.parts.now c.loop-i.next.items c.loop-i.board c.loop-i.invariant.stands in
    subst (λ (k : ℕ). AreParts k c.args.parts.now) (sym size) c.requires.parts

pub advance-requires-clause-stands : goal.advance-requires-clause-stands
advance-requires-clause-stands c =
    let n = length c.args.board.now.levels in
    let size : length c.loop-i.board.levels ≡ n = stands_size n c.args.parts.now c.loop-i.next.items c.loop-i.board c.loop-i.invariant.stands in
    subst (λ (k : ℕ). StandsAt k c.args.parts.now c.loop-i.next.items c.loop-i.board) (sym size) c.loop-i.invariant.stands

pub loop-i-preserved : goal.loop-i-preserved
loop-i-preserved c =
    let n = length c.args.board.now.levels in
    let i = c.loop-i.i in
    let old = c.loop-i.next.items in
    let size : length c.loop-i.board.levels ≡ n = stands_size n c.args.parts.now old c.loop-i.board c.loop-i.invariant.stands in
    let now : c.advance.new.next.items ≡ set old i c.at.result = c.advance.ensures.next in
    let within : i < length old = omega (arith, c.loop-i-test.true, c.loop-i.invariant.shape) in
    record {
      shape = ap (λ (ns : List ℕ). length ns) now ∙ length-set old i c.at.result ∙ c.loop-i.invariant.shape;
      done = λ q below.
          ap (λ (ns : List ℕ). get_or ns q 0) now
          ∙ elim (cases_eq q i) [
            | inl same ↦ ap (λ (k : ℕ). get_or (set old i c.at.result) k 0) same ∙ get_or-set_same old i c.at.result 0 within ∙ c.at.ensures ∙ ap (λ (k : ℕ). get_or c.args.from.now k 0) (sym same)
            | inr apart ↦ get_or-set_other old i q c.at.result 0 apart ∙ c.loop-i.invariant.done q (omega arith)
          ];
      rest = λ q above. let apart : q ≡ i → ⊥ = λ same. omega arith in ap (λ (ns : List ℕ). get_or ns q 0) now ∙ get_or-set_other old i q c.at.result 0 apart ∙ c.loop-i.invariant.rest q (omega arith);
      stands = subst (λ (k : ℕ). StandsAt k c.args.parts.now c.advance.new.next.items c.advance.new.board) size c.advance.ensures.stands;
    }

pub returns-clause-next : goal.returns-clause-next
returns-clause-next c =
    same_number_lists c.loop-i.next.items c.args.from.now (omega (arith, c.loop-i.invariant.shape, c.requires.places.shape))
    (λ q within. c.loop-i.invariant.done q (omega (arith, c.loop-i.invariant.shape, c.loop-i-test.false)))

pub returns-clause-board : goal.returns-clause-board
returns-clause-board c =
    let n = length c.args.board.now.levels in
    subst (λ (ns : List ℕ). StandsAt n c.args.parts.now ns c.loop-i.board) (returns-clause-next c) c.loop-i.invariant.stands

use Rattle.std.proofs.Common.{◌≡◌, ◌++◌, refl, sym, ap, ◌∙◌, arith}
use Rattle.std.specs.Prelude.{ℤ, pos}
use Rattle.std.proofs.lemmas.Int.{ints}
use Rattle.tk_coord.specs.Coordinator.{CoordinatorView}
use Rattle.tk_journal.specs.Legal.{start, turn_of}
use Rattle.tk_journal.specs.declared.noted.Noted.TheVariants as n
use Rattle.tk_verify.proofs.JournalLemmas.{below_zero, turned, untuned_leads}
use Rattle.tk_verify.proofs.journals.retune.Goals as goal

pub returns-then-epsilon-lt0-clause-leads : goal.returns-then-epsilon-lt0-clause-leads
returns-then-epsilon-lt0-clause-leads c =
    let old = c.args.coordinator.now in
    below_zero old.settings old.journal c.args.k c.args.epsilon c.requires (λ e is. let below = c.if-epsilon-lt0.true in omega (arith, ints, below, is))

pub returns-in-Ok-clause-leads : goal.returns-in-Ok-clause-leads
returns-in-Ok-clause-leads c =
    let old = c.args.coordinator.now in
    let value = c.unsigned_abs.ensures.value in
    let above = c.if-epsilon-lt0.false in
    let size : c.args.epsilon ≡ pos c.unsigned_abs.result = omega (arith, ints, value, above) in
    turned (start old.settings) old.journal (n.Tuned c.args.k c.args.epsilon) c.retune.new.self.journal refl (c.retune.ensures.legal (start old.settings) refl c.requires)
    (c.in-Ok.ensures.turn ∙ ap (λ (z : ℤ). old.journal ++ turn_of old.settings old.journal (n.Tuned c.args.k z)) (sym size))

pub returns-in-Err-clause-leads : goal.returns-in-Err-clause-leads
returns-in-Err-clause-leads c =
    let old = c.args.coordinator.now in
    let value = c.unsigned_abs.ensures.value in
    let above = c.if-epsilon-lt0.false in
    let size : c.args.epsilon ≡ pos c.unsigned_abs.result = omega (arith, ints, value, above) in
    untuned_leads old.settings old.journal c.args.k c.unsigned_abs.result c.args.epsilon c.in-Err.refusal c.retune.new.self.journal c.unless_room.result c.requires size (ap (λ (v : CoordinatorView). v.journal) c.in-Err.ensures.err) c.in-Err.ensures.refused c.unless_room.ensures

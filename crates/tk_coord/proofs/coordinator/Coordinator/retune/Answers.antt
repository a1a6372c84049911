use Rattle.std.proofs.Common.{FitsSigned, ◌≡◌, ◌+◌, pos, List, [], ◌∷◌, ◌++◌, inl, inr, refl, sym, ap, ap₂, ◌∙◌, subst, arith}
use Rattle.std.specs.Int.{w128}
use Rattle.std.proofs.lemmas.Int.{ints, to_z-of_z}
use Rattle.std.proofs.lemmas.Result.{err_from_is_err_and}
use Rattle.tk_journal.specs.Legal.{IsLegal, turn_of}
use Rattle.tk_journal.specs.Turns.{rounds, wide_collects}
use Rattle.tk_journal.specs.declared.noted.Noted.{Noted}
use Rattle.tk_journal.specs.declared.noted.Noted.TheVariants.{Tuned}
use Rattle.tk_coord.specs.Coordinator.{CoordinatorView, IsJournal}
use Rattle.tk_coord.specs.Grounds.{OpensOver}
use Rattle.tk_coord.specs.Journal.{JournalView}
use Rattle.tk_coord.specs.State.{Holds, Stands}
use Rattle.tk_coord.proofs.GrowLemmas.{journal_retuned, legal_by_retune}
use Rattle.tk_coord.proofs.NoteLemmas.{appended, more_entries}
use Rattle.tk_coord.proofs.RetuneTurns.{retuned_holds, retuned_stands, tuned_entry, tuned_is_asked, tuned_turn}
use Rattle.tk_journal.specs.declared.turn.Turn.{Turn}
use Rattle.tk_coord.specs.Steps.{IsRetuned}
use Rattle.tk_coord.proofs.TurnsLemmas.{turns_retuned}
use Rattle.tk_coord.proofs.coordinator.Coordinator.retune.Goals as goal

-- ---- the refusals

pub returns-in_err-next-clause-refused : goal.returns-in_err-next-clause-refused
returns-in_err-next-clause-refused c =
    let p = err_from_is_err_and c.from_residual.result c.from_residual.ensures.1 in
    rw (p.1, p.2) (inr c.in_err-next.ensures.refused)

pub returns-in_default-clause-refused : goal.returns-in_default-clause-refused
returns-in_default-clause-refused c = inl (refl, c.in_ok-next.ensures.ok.accepted)

pub returns-in_default-wide-clause-refused : goal.returns-in_default-wide-clause-refused
returns-in_default-wide-clause-refused c = inl (refl, c.in_ok-next.ensures.ok.accepted)

pub returns-in_default-make_room-clause-refused : goal.returns-in_default-make_room-clause-refused
returns-in_default-make_room-clause-refused c = inl (refl, c.in_ok-next.ensures.ok.accepted)

-- ---- the turn

-- it is not refused
retuned_of : (c : goal.After-push-2) → IsRetuned c.self.inside.settings c.self.inside.journal.entries c.args.k c.args.epsilon c.in_ok-next.next
retuned_of c =
    subst (λ (v : CoordinatorView). IsRetuned v.settings v.journal c.args.k c.args.epsilon c.in_ok-next.next) (sym c.self.view_is) c.in_ok-next.ensures.ok

-- the entry that was noted
entry_of : (c : goal.After-push-2) → Tuned c.k.result c.in-Ok.kept ≡ Tuned c.args.k (pos c.args.epsilon)
entry_of c =
    let f = c.self.inside in
    let limits = c.epsilon.ensures.limits in
    let low = limits.no_debt in
    let high = limits.epsilon in
    let is : c.epsilon.result ≡ c.in_ok-next.next.epsilon = c.epsilon.ensures.value in
    let fits : FitsSigned w128 c.epsilon.result = omega (arith, ints, low, high, is) in
    tuned_entry f.settings f.journal.entries c.args.k c.args.epsilon c.k.result c.in-Ok.kept c.in_ok-next.next (retuned_of c) c.k.ensures.value
    (c.in-Ok.ensures ∙ to_z-of_z w128 c.epsilon.result fits ∙ is)

-- what opens behind it
opens_of : (c : goal.After-push-2) → OpensOver c.self.inside.settings c.self.inside.journal.entries c.in-Ok-wide.outcome
opens_of c = subst (λ (v : CoordinatorView). OpensOver v.settings v.journal c.in-Ok-wide.outcome) (sym c.self.view_is) c.in-Ok-wide.ensures

-- the Collects that follow it
asked_of : (c : goal.After-push-2) → c.in-Ok-wide.outcome.entries.items ≡ wide_collects c.self.inside.settings (rounds c.self.inside.settings c.self.inside.journal.entries + 1)
asked_of c =
    let f = c.self.inside in
    (tuned_is_asked f.settings f.journal.entries c.args.k c.args.epsilon c.in_ok-next.next c.in-Ok-wide.outcome c.self.invariant.0.journal (retuned_of c) (opens_of c)).0

-- the journal with the entry and the Collects
noted_of : (c : goal.After-push-2) → c.append.new.self.entries ≡ c.self.inside.journal.entries ++ Tuned c.k.result c.in-Ok.kept ∷ c.in-Ok-wide.outcome.entries.items
noted_of c = appended (Tuned c.k.result c.in-Ok.kept) c.in-Ok-wide.outcome.entries.items c.make_room.ensures.entries (ap (λ (k : JournalView). k.entries) c.push.ensures) c.append.ensures.entries

-- it is the journal with the turn of the retune
turn_is : (c : goal.After-push-2)
    → c.append.new.self.entries ≡ c.self.inside.journal.entries ++ turn_of c.self.inside.settings c.self.inside.journal.entries (Tuned c.args.k (pos c.args.epsilon))
turn_is c =
    let f = c.self.inside in
    noted_of c ∙ ap (λ (e : Noted). f.journal.entries ++ e ∷ c.in-Ok-wide.outcome.entries.items) (entry_of c)
    ∙ ap (λ (l : List Noted). f.journal.entries ++ Tuned c.args.k (pos c.args.epsilon) ∷ l) (asked_of c)
    ∙ sym (tuned_turn f.settings f.journal.entries c.args.k c.args.epsilon)

pub invariant_of-self-2 : goal.invariant_of-self-2
invariant_of-self-2 c =
    let f = c.self.inside in
    let s = f.settings in
    let j = f.journal.entries in
    let k = c.args.k in
    let e = c.args.epsilon in
    let outcome = c.in-Ok-wide.outcome in
    let next = c.in_ok-next.next in
    let kept = c.self.invariant.0 in
    let r = retuned_of c in
    let opens = opens_of c in
    let asked = tuned_is_asked s j k e next outcome kept.journal r opens in
    let turn = turn_is c in
    let after = c.append.new.self.entries in
    let holds : Holds s after c.reply.new.self = subst (λ (b : List Noted). Holds s b c.reply.new.self) (sym turn)
    (retuned_holds s j outcome.entries.items k e f.state c.reply.new.self outcome.reply asked.0 asked.1 kept.holds c.reply.ensures) in (
      record {
        journal = subst (IsJournal s) (sym turn) (journal_retuned s j k e kept.journal r.accepted);
        holds = holds;
        stands = subst (λ (b : List Noted). Stands s b (record outcome.phase { next = next })) (sym turn) (retuned_stands s j k e outcome.phase next kept.journal opens.stands r);
        entries = more_entries s j after outcome.entries.items (Tuned c.k.result c.in-Ok.kept) kept.entries tt opens.range (noted_of c);
        turned = turns_retuned s j after k e c.is_calm-calm.result f.turns.list _ r.accepted turn (c.is_calm-calm.ensures s after holds) kept.turned
            (c.push-2.ensures ∙ ap₂ (λ (xs : List Turn) (t : Turn). xs ++ t ∷ []) c.make_room.ensures.list c.retune_turn.ensures);
      },
      c.append.ensures.monitors ∙ ap (λ (v : JournalView). v.monitors) c.push.ensures ∙ c.make_room.ensures.monitors ∙ c.self.invariant.1,
    )

pub returns-clause-ok : goal.returns-clause-ok
returns-clause-ok c = c.in_ok-next.ensures.ok.accepted

pub returns-clause-turn : goal.returns-clause-turn
returns-clause-turn c =
    turn_is c ∙ ap (λ (v : CoordinatorView). v.journal ++ turn_of v.settings v.journal (Tuned c.args.k (pos c.args.epsilon))) c.self.view_is

pub returns-clause-legal : goal.returns-clause-legal
returns-clause-legal c = λ o is legal.
    let f = c.self.inside in
    subst (IsLegal o) (sym (turn_is c))
    (legal_by_retune f.settings o f.journal.entries c.args.k c.args.epsilon
    (is ∙ ap (λ (v : CoordinatorView). v.settings) (sym c.self.view_is)) (subst (λ (v : CoordinatorView). IsLegal o v.journal) (sym c.self.view_is) legal) (retuned_of c).accepted)

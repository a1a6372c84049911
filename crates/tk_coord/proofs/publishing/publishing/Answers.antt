use Rattle.std.proofs.Common.{◌≡◌, ◌≤◌, ℕ, List, [], ◌∷◌, ◌++◌, sym, ap, ◌∙◌, subst, arith}
use Rattle.std.specs.List.{All}
use Rattle.std.proofs.lemmas.List.Elements.{All-push}
use Rattle.tk_coord.proofs.BatchLemmas.{none_stops, published_alone, published_last}
use Rattle.tk_journal.specs.Entries.{IsEntryOf}
use Rattle.tk_journal.specs.declared.noted.Noted.{Noted}
use Rattle.tk_journal.specs.declared.noted.Noted.TheVariants as n
use Rattle.tk_journal.specs.declared.publication.Publication.{Publication}
use Rattle.tk_coord.proofs.publishing.publishing.Goals as goal
use Rattle.tk_coord.proofs.publishing.publishing.Goals.{then-last+in_ok-push_stops, else-last}

-- the same of a number of monitors that is equal
stops_over : (m n objects : ℕ) (xs ys : List Noted) → m ≡ n → (All (IsEntryOf m objects) xs → All (IsEntryOf m objects) ys) → All (IsEntryOf n objects) xs → All (IsEntryOf n objects) ys
stops_over m n objects xs ys same stops all =
    subst (λ (q : ℕ). All (IsEntryOf q objects) ys) same (stops (subst (λ (q : ℕ). All (IsEntryOf q objects) xs) (sym same) all))

pub returns-clause-entries : goal.returns-clause-entries
returns-clause-entries c = λ objects within.
    let members : c.in_ok-kept.kept.members ≡ c.args.members.now = ap (λ (p : Publication). p.members) c.in_ok-kept.ensures in
    let here : All (λ t. t ≤ objects) c.in_ok-kept.kept.members = subst (λ (l : List ℕ). All (λ t. t ≤ objects) l) (sym members) within in
    let none : All (IsEntryOf c.args.settings.now.monitors objects) c.new-entries.result.items = rw c.new-entries.ensures.items (λ k d below. absurd (omega arith)) in
    let first : All (IsEntryOf c.args.settings.now.monitors objects) c.push.new.self.items =
    rw c.in_ok-push.ensures.items (All-push (IsEntryOf c.args.settings.now.monitors objects) c.new-entries.result.items (n.Published c.in_ok-kept.kept) none here) in
    elim c.if-last.branch [
      | then-last+in_ok-push_stops w ↦ rw w.entries-is
          (stops_over w.monitors.result c.args.settings.now.monitors objects c.push.new.self.items w.push_stops.new.entries.items w.monitors.ensures.value
          (w.in_ok-push_stops.ensures.entries objects) first)
      | else-last w ↦ rw w.entries-is first
    ]

pub returns-then-not-last-clause-ends : goal.returns-then-not-last-clause-ends
returns-then-not-last-clause-ends c = rw c.new.ensures.items none_stops

pub returns-clause-ends : goal.returns-clause-ends
returns-clause-ends c =
    let first : c.push.new.self.items ≡ n.Published c.in_ok-kept.kept ∷ [] = c.in_ok-push.ensures.items ∙ ap (λ (l : List Noted). l ++ n.Published c.in_ok-kept.kept ∷ []) c.new-entries.ensures.items in
    elim c.if-last.branch [
      | then-last+in_ok-push_stops w ↦ rw w.entries-is
          ((published_last w.push_stops.new.entries.items c.push.new.self.items c.in_ok-kept.kept w.monitors.result first w.in_ok-push_stops.ensures.value
          (omega (arith, w.monitors.ensures.value, w.monitors.ensures.limits.some_monitor))).1 ∙ sym w.if-last.true)
      | else-last w ↦ rw w.entries-is ((published_alone c.push.new.self.items c.in_ok-kept.kept first).1 ∙ sym w.if-last.false)
    ]

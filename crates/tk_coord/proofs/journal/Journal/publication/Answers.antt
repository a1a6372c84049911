use Rattle.std.proofs.Common.{◌≡◌, ◌<◌, ℕ, List, length, get_or, Some, sym, subst, arith, ap, ◌∙◌}
use Rattle.std.specs.Prelude.{slice_get, slice_index}
use Rattle.std.proofs.lemmas.List.{get_or_default}
use Rattle.std.proofs.lemmas.Option.{slice_get_within, get_or_from_slice_get}
use Rattle.tk_journal.specs.declared.noted.Noted.{Noted}
use Rattle.tk_journal.specs.declared.noted.Noted.TheVariants as n
use Rattle.tk_journal.specs.declared.publication.Publication.{Publication}
use Rattle.tk_journal.specs.Publishing.{published_in, publications}
use Rattle.tk_coord.specs.Journal.{IsIndex, JournalView}
use Rattle.tk_coord.proofs.PlaceLemmas.{index_reads}
use Rattle.tk_coord.proofs.journal.Journal.publication.Goals as goal

-- an entry that reads as a publication is one
is_published : (e : Noted) (p : Publication) → published_in e ≡ Some p → e ≡ n.Published p
is_published (n.Got from frame) p is = cc
is_published (n.Sent to frame) p is = cc
is_published (n.Tuned k epsilon) p is = cc
is_published (n.Published q) p is = ap n.Published (same_some is)
  where
    same_some : {x y : Publication} → Some x ≡ Some y → x ≡ y
    same_some e = cc

-- the entry at the place that the index gives
read_at : (journal : List Noted) (places : List ℕ) (i place : ℕ) → IsIndex published_in journal places → i < length (publications journal) → place ≡ get_or places i place
    → (e : Noted) × (p : Publication) × (slice_get journal place ≡ Some e) × (e ≡ n.Published p) × (slice_get (publications journal) i ≡ Some p)
read_at journal places i place at within here =
    let (e, p, there, reads, found) = index_reads published_in journal places i at within in
    let same : place ≡ slice_index places i = here ∙ get_or_default places i place 0 (omega (arith, at.count)) in
    (e, p, ap (λ (k : ℕ). slice_get journal k) same ∙ there, is_published e p reads, found)

pub index-requires-2 : goal.index-requires-2
index-requires-2 c =
    let f = c.self.inside in
    let inside : c.args.i < length (publications f.entries.items) = subst (λ (k : JournalView). c.args.i < length (publications k.entries)) (sym c.self.view_is) c.requires in
    let (e, p, there, is, found) = read_at f.entries.items f.published.items c.args.i c.index.result.now c.self.invariant.4 inside c.index.ensures in
    omega (arith, slice_get_within f.entries.items c.index.result.now e there)

pub unreachable-requires : goal.unreachable-requires
unreachable-requires c =
    let f = c.self.inside in
    let inside : c.args.i < length (publications f.entries.items) = subst (λ (k : JournalView). c.args.i < length (publications k.entries)) (sym c.self.view_is) c.requires in
    let (e, p, there, is, found) = read_at f.entries.items f.published.items c.args.i c.index.result.now c.self.invariant.4 inside c.index.ensures in
    c.in_default.not-Published p (c.index-2.ensures ∙ get_or_from_slice_get f.entries.items c.index.result.now e c.index-2.result.now there ∙ is)

pub returns : goal.returns
returns c =
    let f = c.self.inside in
    let inside : c.args.i < length (publications f.entries.items) = subst (λ (k : JournalView). c.args.i < length (publications k.entries)) (sym c.self.view_is) c.requires in
    let (e, p, there, is, found) = read_at f.entries.items f.published.items c.args.i c.index.result.now c.self.invariant.4 inside c.index.ensures in
    let same : n.Published c.in-Published.publication ≡ n.Published p =
    sym c.in-Published.is ∙ c.index-2.ensures ∙ get_or_from_slice_get f.entries.items c.index.result.now e c.index-2.result.now there ∙ is in
    let publication : c.in-Published.publication ≡ p = cc in
    rw (← c.self.view_is) (found ∙ ap Some (sym publication ∙ sym c.get.ensures))

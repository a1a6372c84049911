use Rattle.std.proofs.Common.{◌≡◌, ℕ, Option, List, length, sym, subst, ap, ◌∙◌}
use Rattle.std.specs.List.{zip}
use Rattle.std.proofs.lemmas.List.{length-map}
use Rattle.tk_input.specs.Logs.{IsCut}
use Rattle.tk_input.specs.declared.event.Event.TheVariants.{Raise}
use Rattle.tk_story.specs.Kept.{KeptStory}
use Rattle.tk_multi.specs.Multi.{GoesOn, MultiView, moved_at}
use Rattle.tk_multi.proofs.ListLemmas.{length_zip, written_whole}
use Rattle.tk_multi.proofs.MultiLemmas.{raised_cut}
use Rattle.tk_multi.proofs.multi.Multi.raise.Goals as goal

pub invariant_of-self : goal.invariant_of-self
invariant_of-self g c =
    let m : MultiView = record { logs = c.self.inside.logs; places = c.self.inside.front; watches = c.self.inside.watches.items; worlds = c.self.inside.worlds.items } in
    let view : m ≡ c.args.self.now = c.self.view_is in
    let goes : GoesOn m c.args.mon.0 c.args.f.0 = subst (λ (v : MultiView). GoesOn v c.args.mon.0 c.args.f.0) (sym view) c.in-Some.ensures.more in
    let count : length c.raise_where.new.worlds ≡ length m.worlds =
    ap (λ (l : List KeptStory). length l) c.raise_where.ensures ∙ length-map (zip c.as_slice.result.now c.as_mut_slice-worlds.result.now) (moved_at (Raise c.args.mon c.args.f) c.in-Some.change.obj.0)
    ∙ length_zip c.as_slice.result.now c.as_mut_slice-worlds.result.now
    (ap (λ (l : List (List (Option ℕ))). length l) c.as_slice.ensures.value ∙ c.self.invariant.each ∙ sym (ap (λ (l : List KeptStory). length l) c.as_mut_slice-worlds.ensures.value))
    ∙ ap (λ (l : List KeptStory). length l) c.as_mut_slice-worlds.ensures.value in
    record {
      cut = subst (λ (p : List (List ℕ)). IsCut m.logs.logs p) (sym c.raise.ensures) (raised_cut m.logs.logs m.places c.args.mon.0 c.args.f.0 goes.place c.self.invariant.cut goes.within);
      each = c.self.invariant.each ∙ sym (ap (λ (l : List KeptStory). length l) (written_whole c.self.inside.worlds.len c.raise_where.new.worlds m.worlds c.self.inside.worlds.ok.0 count) ∙ count);
    }

use Rattle.std.proofs.Common.{◌≡◌, ◌-◌, ◌∙◌, length, drop, take, ap, sym}
use Rattle.std.specs.Prelude.{min}
use Rattle.tk_base.proofs.ListLemmas.{rest_is}
use Rattle.tk_stream.proofs.RangeLemmas.{read_from, read_none}
use Rattle.tk_stream.proofs.map_source.MapSourceSource.read.Goals as goal

pub returns-clause-told : goal.returns-clause-told
returns-clause-told c _ =
    let s = c.self.inside in
    let n = c.copy_front-count.result in
    let rest : c.args.self.now.rest ≡ drop s.at s.bytes.items = ap (λ v. v.rest) (sym c.self.view_is) in
    let from = ap (λ xs. take (length xs - s.at) (drop s.at xs)) c.deref-2.ensures.value ∙ rest_is s.bytes.items s.at in (
      read_from s.at n s.bytes.items c.copy_front-count.new.room c.args.self.now.rest rest (c.copy_front-count.ensures.front ∙ ap (take n) from),
      λ none. rest ∙ read_none n s.piece (length c.args.room.now) (drop s.at s.bytes.items) (c.copy_front-count.ensures.count ∙ ap (λ xs. min (min (length xs) s.piece) (length c.args.room.now)) from) c.self.invariant.0 c.requires none,
    )

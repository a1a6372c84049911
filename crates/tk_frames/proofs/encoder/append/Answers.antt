use Rattle.std.proofs.Common.{◌≡◌, ◌-◌, length, ◌∙◌, arith}
use Rattle.std.proofs.lemmas.List.{take_at}
use Rattle.tk_frames.specs.Spelling.{payload}
use Rattle.tk_frames.proofs.EncodingLemmas.{appended, length_behind}
use Rattle.tk_frames.proofs.SizeLemmas.{short_fits}
use Rattle.tk_frames.proofs.encoder.append.Goals as goal

pub returns-then-length-gt-MAX_PAYLOAD-clause-short : goal.returns-then-length-gt-MAX_PAYLOAD-clause-short
returns-then-length-gt-MAX_PAYLOAD-clause-short c = λ short size e.
    let fits = short_fits c.args.version c.args.frame.now c.in_ok-payload.ensures.within short in
    let length_is = length_behind c.len-start.result c.len.result c.args.out.now.items c.payload.new.out.items (payload c.args.version c.args.frame.now)
    c.in_ok-payload.ensures.bytes (omega (arith, c.len-start.ensures, c.args.out.now.ok)) (omega (arith, c.len.ensures, c.payload.new.out.ok)) in
    absurd (omega (arith, fits, length_is, c.if-length-gt-MAX_PAYLOAD.true))

pub returns-clause-ok : goal.returns-clause-ok
returns-clause-ok c =
    let start_is : c.len-start.result ≡ length c.args.out.now.items = omega (arith, c.len-start.ensures, c.args.out.now.ok) in
    let length_is = length_behind c.len-start.result c.len.result c.args.out.now.items c.payload.new.out.items (payload c.args.version c.args.frame.now)
    c.in_ok-payload.ensures.bytes start_is (omega (arith, c.len.ensures, c.payload.new.out.ok)) in
    appended c.args.version c.args.frame.now c.len-start.result (c.len.result - c.len-start.result - 4) c.args.out.now.items c.deref_mut.result.now _
    c.in_ok-payload.ensures.within c.requires.hello (c.deref_mut.ensures.value ∙ c.in_ok-payload.ensures.bytes) start_is length_is c.if-length-gt-MAX_PAYLOAD.false
    (take_at c.put_length.new.bytes _ c.payload.new.out.len (c.put_length.auto.bytes ∙ c.deref_mut.ensures.len) ∙ c.put_length.ensures)

use Rattle.std.proofs.Common.{◌+◌, ◌-◌, ◌∙◌, arith}
use Rattle.byteorder.specs.Endian.{big_bytes}
use Rattle.tk_frames.proofs.EncodingLemmas.{four_put}
use Rattle.tk_frames.proofs.encoder.put_length.Goals as goal

pub returns : goal.returns
returns c = four_put c.args.start (c.args.start + 4 - c.args.start) c.args.bytes.now c.copy_from_slice.new.self (big_bytes 4 c.args.size) (c.copy_from_slice.ensures.after ∙ c.to_be_bytes.ensures) (omega arith)

use Rattle.std.proofs.Common.{rules, append_assoc}
use Rattle.tk_frames.proofs.encoder.fields.Goals as goal

pub returns-in_ok-set-in-Report-clause-bytes : goal.returns-in_ok-set-in-Report-clause-bytes
returns-in_ok-set-in-Report-clause-bytes c = search (rules, append_assoc)

pub returns-in_ok-signed_i128-in-Values-clause-bytes : goal.returns-in_ok-signed_i128-in-Values-clause-bytes
returns-in_ok-signed_i128-in-Values-clause-bytes c = search (rules, append_assoc)

use Rattle.std.proofs.Common.{List, Option, ap, option_map, ℕ}
use Rattle.std.specs.Borrow.{Bor}
use Rattle.tk_load.specs.Reads.{reads_by}
use Rattle.tk_commands.proofs.MultiLemmas.{order_found, order_lost}
use Rattle.tk_commands.proofs.multi.read_order.Goals as goal

pub returns-in-Ok-clause-read : goal.returns-in-Ok-clause-read
returns-in-Ok-clause-read g c =
    order_found (reads_by g.F.Files c.args.files.now c.order_from_file.new.files) _ c.in-Some.file.now
    (ap (λ (o : Option (Bor (List ℕ))). option_map (λ (s : Bor (List ℕ)). s.now) o) c.in-Some.is) c.in-Ok.order c.in-Ok.ensures.read

pub returns-in-Err-clause-read : goal.returns-in-Err-clause-read
returns-in-Err-clause-read g c =
    order_lost (reads_by g.F.Files c.args.files.now c.order_from_file.new.files) _ c.in-Some.file.now
    (ap (λ (o : Option (Bor (List ℕ))). option_map (λ (s : Bor (List ℕ)). s.now) o) c.in-Some.is) c.in-Err.status c.in-Err.ensures.read

use Rattle.std.proofs.Common.{ℕ, List, Bor, ap, refl}
use Rattle.tk_base.specs.declared.ids.Mon.{Mon}
use Rattle.tk_words.specs.Asked.{asked_logs, asked_multi}
use Rattle.tk_commands.proofs.MultiLemmas.{alones_refused, loaded, logs_refused, names_refused, order_refused, queries_refused, seen_logs_of}
use Rattle.tk_commands.specs.MultiInput.{alones_in}
use Rattle.tk_load.specs.Reads.{NoneFailed, reads_by}
use Rattle.tk_load.proofs.FailLemmas.{none_behind, tells_other, told_behind}
use Rattle.tk_commands.proofs.OtherLemmas.{alones_other}
use Rattle.std.proofs.Common.{inl}
use Rattle.tk_commands.proofs.multi.load_multi.Goals as goal

pub returns-in-Err-clause-read : goal.returns-in-Err-clause-read
returns-in-Err-clause-read g c =
    names_refused g.F.Files c.args.files.now c.read_names.new.files (asked_multi c.args.words.now) c.read_names.ensures.kept
    c.in-Err.status c.in-Err.ensures.read

pub returns-in-Err-read_queries-clause-read : goal.returns-in-Err-read_queries-clause-read
returns-in-Err-read_queries-clause-read g c =
    queries_refused g.F.Files c.args.files.now c.read_names.new.files (asked_multi c.args.words.now) c.read_names.ensures.kept
    c.in-Ok.names c.in-Ok.ensures.read c.read_queries.new.files c.read_queries.ensures.kept
    c.in-Err-read_queries.status c.in-Err-read_queries.ensures.read

pub returns-in-Err-all_logs-clause-read : goal.returns-in-Err-all_logs-clause-read
returns-in-Err-all_logs-clause-read g c =
    let same = ap (λ (logs : List (Mon × Bor (List ℕ))). asked_logs logs) c.as_slice.ensures.value in
    logs_refused g.F.Files c.args.files.now c.read_names.new.files (asked_multi c.args.words.now) c.read_names.ensures.kept
    c.in-Ok.names c.in-Ok.ensures.read c.read_queries.new.files c.read_queries.ensures.kept
    c.in-Ok-read_queries.queries c.in-Ok-read_queries.ensures.read c.all_logs.new.files c.all_logs.ensures.kept
    c.in-Err-all_logs.status (seen_logs_of _ _ _ _ _ same c.in-Err-all_logs.ensures.read)

pub returns-in-Err-alones_of-clause-read : goal.returns-in-Err-alones_of-clause-read
returns-in-Err-alones_of-clause-read g c =
    let same = ap (λ (logs : List (Mon × Bor (List ℕ))). asked_logs logs) c.as_slice.ensures.value in
    alones_refused g.F.Files c.args.files.now c.read_names.new.files (asked_multi c.args.words.now) c.read_names.ensures.kept
    c.in-Ok.names c.in-Ok.ensures.read c.read_queries.new.files c.read_queries.ensures.kept
    c.in-Ok-read_queries.queries c.in-Ok-read_queries.ensures.read c.all_logs.new.files c.all_logs.ensures.kept
    c.in-Ok-all_logs.logs (seen_logs_of _ _ _ _ _ same c.in-Ok-all_logs.ensures.read)
    c.in-Err-alones_of.status c.in-Err-alones_of.ensures.meets

pub returns-clause-read : goal.returns-clause-read
returns-clause-read g c =
    let same = ap (λ (logs : List (Mon × Bor (List ℕ))). asked_logs logs) c.as_slice.ensures.value in
    order_refused g.F.Files c.args.files.now c.read_names.new.files (asked_multi c.args.words.now) c.read_names.ensures.kept
    c.in-Ok.names c.in-Ok.ensures.read c.read_queries.new.files c.read_queries.ensures.kept
    c.in-Ok-read_queries.queries c.in-Ok-read_queries.ensures.read c.all_logs.new.files c.all_logs.ensures.kept
    c.in-Ok-all_logs.logs (seen_logs_of _ _ _ _ _ same c.in-Ok-all_logs.ensures.read)
    c.in-Ok-alones_of.alones.items c.in-Ok-alones_of.ensures.meets c.read_order.new.files c.read_order.ensures.kept
    c.in-Err-read_order.status c.in-Err-read_order.ensures.read

pub returns-in-Ok-read_order-clause-read : goal.returns-in-Ok-read_order-clause-read
returns-in-Ok-read_order-clause-read g c =
    let same = ap (λ (logs : List (Mon × Bor (List ℕ))). asked_logs logs) c.as_slice.ensures.value in
    loaded g.F.Files c.args.files.now c.read_names.new.files (asked_multi c.args.words.now) c.read_names.ensures.kept
    c.in-Ok.names c.in-Ok.ensures.read c.read_queries.new.files c.read_queries.ensures.kept
    c.in-Ok-read_queries.queries c.in-Ok-read_queries.ensures.read c.all_logs.new.files c.all_logs.ensures.kept
    c.in-Ok-all_logs.logs (seen_logs_of _ _ _ _ _ same c.in-Ok-all_logs.ensures.read)
    c.in-Ok-alones_of.alones.items c.in-Ok-alones_of.ensures.meets c.read_order.new.files c.read_order.ensures.kept
    _ refl c.in-Ok-read_order.ensures.read

pub returns-in-Err-read_queries-clause-counts : goal.returns-in-Err-read_queries-clause-counts
returns-in-Err-read_queries-clause-counts g c =
    told_behind g.F.Files c.args.files.now c.read_names.new.files c.read_queries.new.files c.in-Ok.ensures.counts c.in-Err-read_queries.status c.in-Err-read_queries.ensures.counts

pub returns-in-Err-all_logs-clause-counts : goal.returns-in-Err-all_logs-clause-counts
returns-in-Err-all_logs-clause-counts g c =
    let two = none_behind g.F.Files c.args.files.now c.read_names.new.files c.read_queries.new.files c.in-Ok.ensures.counts c.in-Ok-read_queries.ensures.counts in
    told_behind g.F.Files c.args.files.now c.read_queries.new.files c.all_logs.new.files two c.in-Err-all_logs.status c.in-Err-all_logs.ensures.counts

pub returns-in-Err-alones_of-clause-counts : goal.returns-in-Err-alones_of-clause-counts
returns-in-Err-alones_of-clause-counts g c =
    let two = none_behind g.F.Files c.args.files.now c.read_names.new.files c.read_queries.new.files c.in-Ok.ensures.counts c.in-Ok-read_queries.ensures.counts in
    let three : NoneFailed (reads_by g.F.Files c.args.files.now c.all_logs.new.files) = none_behind g.F.Files c.args.files.now c.read_queries.new.files c.all_logs.new.files two c.in-Ok-all_logs.ensures.counts in
    tells_other (reads_by g.F.Files c.args.files.now c.all_logs.new.files) c.in-Err-alones_of.status (alones_in c.args.words.now.queries.now c.in-Ok.names c.in-Ok-all_logs.logs c.in-Ok-read_queries.queries) (inl three)
    (alones_other c.args.words.now.queries.now c.in-Ok.names c.in-Ok-all_logs.logs c.in-Ok-read_queries.queries) c.in-Err-alones_of.ensures.meets

pub returns-clause-counts : goal.returns-clause-counts
returns-clause-counts g c =
    let two = none_behind g.F.Files c.args.files.now c.read_names.new.files c.read_queries.new.files c.in-Ok.ensures.counts c.in-Ok-read_queries.ensures.counts in
    let three = none_behind g.F.Files c.args.files.now c.read_queries.new.files c.all_logs.new.files two c.in-Ok-all_logs.ensures.counts in
    told_behind g.F.Files c.args.files.now c.all_logs.new.files c.read_order.new.files three c.in-Err-read_order.status c.in-Err-read_order.ensures.counts

pub returns-in-Ok-read_order-clause-counts : goal.returns-in-Ok-read_order-clause-counts
returns-in-Ok-read_order-clause-counts g c =
    let two = none_behind g.F.Files c.args.files.now c.read_names.new.files c.read_queries.new.files c.in-Ok.ensures.counts c.in-Ok-read_queries.ensures.counts in
    let three = none_behind g.F.Files c.args.files.now c.read_queries.new.files c.all_logs.new.files two c.in-Ok-all_logs.ensures.counts in
    none_behind g.F.Files c.args.files.now c.all_logs.new.files c.read_order.new.files three c.in-Ok-read_order.ensures.counts

-- Whenever the coordinator deals, it can: what the rounds of a legal journal begin with.
use Rattle.std.proofs.Common.{◌≡◌, ℕ, ℤ, List, [], ◌∷◌, ◌++◌, length, None, false, refl, ap, arith}
use Rattle.std.proofs.lemmas.Bool.{le-ltb}
use Rattle.std.proofs.lemmas.List.{length-map}
use Rattle.std.proofs.lemmas.List.FromFn.{length-range_with_len}
use Rattle.tk_base.specs.Pairs.{objects_of}
use Rattle.tk_base.specs.declared.ids.Mon.{Mon}
use Rattle.tk_frames.specs.declared.frame.Frame.TheVariants as f
use Rattle.tk_alloc.specs.declared.reported.Reported.{Reported}
use Rattle.tk_alloc.specs.Limit.{CanDeal}
use Rattle.tk_alloc.specs.Resolving.{CanTakePart, objects_over}
use Rattle.tk_journal.specs.Laws.{IsMonitor, IsSetUp}
use Rattle.tk_journal.specs.Legal.{Opening, IsLegal}
use Rattle.tk_journal.specs.Readings.{assigns_sent, members_at, table_at, is_open, in_force}
use Rattle.tk_journal.specs.Deciding.{reports_at}
use Rattle.tk_journal.specs.Refusal.{refusal_of, known_by}
use Rattle.tk_journal.specs.Turns.{reported, is_wide}
use Rattle.tk_journal.specs.declared.noted.Noted.{Noted}
use Rattle.tk_journal.specs.declared.noted.Noted.TheVariants as n
use Rattle.tk_journal.proofs.Content.{report_takes_part}
use Rattle.tk_journal.proofs.Tables.{table_balanced, table_size}
use Rattle.tk_journal.proofs.Tuning.{force_limits, force_monitors}
use Rattle.tk_journal.proofs.Turning.{values_open, values_ending}
use Rattle.tk_journal.proofs.Firm.{ready_over}
use Rattle.tk_journal.proofs.FirmTurns.{report_objects, one_report, fresh_content, full_at_end}
use Rattle.tk_journal.proofs.SoundLemmas.{legal_firm}
use Rattle.tk_journal.proofs.LawLemmas.{orderly}

pub report_dealable : (o : Opening) (j : List Noted) (mon seq : ℕ) (border : ℤ) (failed : List ℕ) (values : List (ℕ × ℤ)) → IsSetUp o → IsLegal o j → IsMonitor o.settings mon
    → refusal_of o.settings j mon (f.Report seq border failed values) ≡ None → seq ≡ assigns_sent mon j
    → CanDeal (in_force o.settings j) (table_at o.settings j) (members_at j) (objects_of values) (reported mon border values ∷ [])
report_dealable o j mon seq border failed values set legal range none fresh =
    let s = o.settings in
    let firm = legal_firm o j set legal in
    let st = firm.standing in
    let content = fresh_content s j (record { 0 = mon }) seq border failed values none (le-ltb seq (assigns_sent mon j) (omega (arith, fresh))) in
    let over = report_takes_part (known_by s mon j) border failed values range.from_one (let w = range.within in let t = table_size s j in omega (arith, w, t)) content in
    let objs = report_objects s j failed (objects_of values) st over.objects in
    record {
      limits = force_limits s j set.limits firm.tuned;
      balanced = table_balanced s j st.sizes;
      ready = ready_over s j (objects_of values) st objs.among objs.within;
      take = one_report (CanTakePart (table_at s j) (members_at j) (objects_of values)) (reported mon border values) over.takes;
      count = (let m = set.limits.some_monitor in let q = force_monitors s j in omega (arith, m, q));
    }

pub ended_dealable : (o : Opening) (j : List Noted) (mon round seq : ℕ) (border : ℤ) (values : List (ℕ × ℤ)) → IsSetUp o → IsLegal o j → IsMonitor o.settings mon
    → refusal_of o.settings j mon (f.Values round seq border values) ≡ None
    → is_open o.settings (j ++ n.Got (record { 0 = mon }) (f.Values round seq border values) ∷ []) ≡ false
    → is_wide o.settings (j ++ n.Got (record { 0 = mon }) (f.Values round seq border values) ∷ []) ≡ false
    → let now = j ++ n.Got (record { 0 = mon }) (f.Values round seq border values) ∷ [] in
    CanDeal (in_force o.settings now) (table_at o.settings now) (members_at now) (objects_over (reports_at o.settings now)) (reports_at o.settings now)
ended_dealable o j mon round seq border values set legal range none closed full =
    let s = o.settings in
    let from : Mon = record { 0 = mon } in
    let frame = f.Values round seq border values in
    let now = j ++ n.Got from frame ∷ [] in
    let ending = values_ending s j from round seq border values range none (orderly o j set legal) closed in
    let begins = full_at_end s j from frame set.limits range none (orderly o j set legal) (legal_firm o j set legal) closed (values_open s j from round seq border values range none) full (reports_at s now) refl ending in
    let called = begins.called in
    record {
      limits = called.limits;
      balanced = called.balanced;
      ready = called.ready;
      take = called.take;
      count = (let a = length-map (reports_at s now) (λ (r : Reported). r.mon.0) in let b = ap length called.order in let c = length-range_with_len 1 (in_force s now).monitors in omega (arith, a, b, c));
    }

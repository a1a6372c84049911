-- Reading a whole trace is exact.
use Rattle.std.proofs.Common.{◌≡◌, ℕ, ◌≤◌, All, List, [], ◌∷◌, ◌++◌, length, take, drop, Option, Some, None, Result, Ok, Err, IfOk, refl, sym, ap, subst, ◌∙◌, append-nil}
use Rattle.std.specs.Prelude.{nat_eq, IsErrOf}
use Rattle.std.specs.Cmp.Lexicographic.{pointwise, same_text}
use Rattle.std.specs.List.{flat_map}
use Rattle.std.proofs.lemmas.List.{take-append-drop}
use Rattle.std.proofs.lemmas.List.Elements.{All-weaker}
use Rattle.std.proofs.lemmas.Option.{cond_some}
use Rattle.tk_input.specs.Logs.{AreParts, LogSet}
use Rattle.tk_frames.proofs.BytesLemmas.{IsBytes, rest_fits}
use Rattle.tk_frames.proofs.ExactLemmas.{left_fits}
use Rattle.tk_frames.proofs.Steps.{bind_some, some_is}
use Rattle.tk_trace.specs.Reading.{Gives, at_the_end, behind_mark, journal_at, logs_at, names_at, run_at, setup_at, trace_at, trails_at}
use Rattle.tk_trace.specs.Recorded.{Recorded}
use Rattle.tk_trace.specs.Spelling.{IsRecorded, IsTrace, journal, mark, name, row, setup, trace, trail}
use Rattle.tk_trace.specs.declared.fault.ParseFault.{ParseFault}
use Rattle.tk_trace.specs.declared.fault.ParseFault.TheVariants as fault
use Rattle.tk_trace.proofs.HistoryLemmas.{exact_journal, exact_trails}
use Rattle.tk_trace.proofs.LogLemmas.{exact_logs}
use Rattle.tk_trace.proofs.NameLemmas.{exact_names}
use Rattle.tk_trace.proofs.SetupLemmas.{exact_setup}

-- ---- the mark, and the end

marked : (bytes rest : List ℕ) → behind_mark bytes ≡ Some rest → bytes ≡ mark ++ rest
marked bytes rest e =
    let a = cond_some (pointwise nat_eq (take 8 bytes) mark) (drop 8 bytes) rest e in
    sym (take-append-drop 8 bytes)
    ∙ ap (λ (front : List ℕ). front ++ drop 8 bytes) (same_text (take 8 bytes) mark (sym a.0))
    ∙ ap (λ (back : List ℕ). mark ++ back) a.1

ended : {X : Type 0} (x y : X) (rest : List ℕ) → at_the_end x rest ≡ Some y → (rest ≡ []) × (x ≡ y)
ended x y [] e = (refl, some_is x y e)
ended x y (b ∷ rest) e = absurd cc

-- the feeders of each monitor are few
few_feeders : (s : LogSet) → All (AreParts s.objects) s.logs → All (λ parts. length parts ≤ 8) s.logs
few_feeders s each = All-weaker (AreParts s.objects) (λ parts. length parts ≤ 8) (λ parts h. h.feeders) s.logs each

-- ---- what is read is spelled

pub trace_taken : (bytes : List ℕ) (r : Recorded) → IsBytes bytes → trace_at bytes ≡ Some r → IsTrace bytes r
unfolding trace_at run_at trace
trace_taken bytes r fits e =
    let m = bind_some (behind_mark bytes) _ r e in
    let s = bind_some (setup_at m.0) _ r m.2 in
    let n = bind_some (names_at s.0.0.objects s.0.1) _ r s.2 in
    let l = bind_some (logs_at s.0.0.objects s.0.0.monitors n.0.1) _ r n.2 in
    let j = bind_some (journal_at s.0.0.monitors l.0.1) _ r l.2 in
    let t = bind_some (trails_at l.0.0.logs j.0.1) _ r j.2 in
    let end = ended (record { names = n.0.0; settings = s.0.0; logs = l.0.0; journal = j.0.0; trails = t.0.0 }) r t.0.1 t.2 in
    let front : bytes ≡ mark ++ m.0 = marked bytes m.0 m.1 in
    let fits0 : IsBytes m.0 = rest_fits mark m.0 (subst IsBytes front fits) in
    let s_is = exact_setup.takes m.0 s.0.0 s.0.1 fits0 s.1 in
    let fits1 : IsBytes s.0.1 = left_fits exact_setup m.0 s.0.0 s.0.1 fits0 s.1 in
    let limits = s_is.1 in
    let names = exact_names s.0.0.objects in
    let n_is = names.takes s.0.1 n.0.0 n.0.1 fits1 n.1 in
    let fits2 : IsBytes n.0.1 = left_fits names s.0.1 n.0.0 n.0.1 fits1 n.1 in
    let logs = exact_logs s.0.0.objects s.0.0.monitors limits.objects limits.monitors in
    let l_is = logs.takes n.0.1 l.0.0 l.0.1 fits2 l.1 in
    let fits3 : IsBytes l.0.1 = left_fits logs n.0.1 l.0.0 l.0.1 fits2 l.1 in
    let journals = exact_journal s.0.0.monitors limits.monitors in
    let j_is = journals.takes l.0.1 j.0.0 j.0.1 fits3 j.1 in
    let fits4 : IsBytes j.0.1 = left_fits journals l.0.1 j.0.0 j.0.1 fits3 j.1 in
    let t_is = (exact_trails l.0.0.logs (few_feeders l.0.0 l_is.1.0.limits.each)).takes j.0.1 t.0.0 t.0.1 fits4 t.1 in
    let tail : j.0.1 ≡ flat_map trail t.0.0 = t_is.0 ∙ ap (λ (w : List ℕ). flat_map trail t.0.0 ++ w) end.0 ∙ append-nil (flat_map trail t.0.0) in
    let whole : bytes ≡ mark ++ (setup s.0.0 ++ (flat_map name n.0.0 ++ (flat_map row l.0.0.logs ++ (journal j.0.0 ++ flat_map trail t.0.0)))) =
    front ∙ ap (λ (w : List ℕ). mark ++ w) s_is.0
    ∙ ap (λ (w : List ℕ). mark ++ (setup s.0.0 ++ w)) n_is.0
    ∙ ap (λ (w : List ℕ). mark ++ (setup s.0.0 ++ (flat_map name n.0.0 ++ w))) l_is.0
    ∙ ap (λ (w : List ℕ). mark ++ (setup s.0.0 ++ (flat_map name n.0.0 ++ (flat_map row l.0.0.logs ++ w)))) j_is.0
    ∙ ap (λ (w : List ℕ). mark ++ (setup s.0.0 ++ (flat_map name n.0.0 ++ (flat_map row l.0.0.logs ++ (journal j.0.0 ++ w))))) tail in
    subst (IsTrace bytes) end.1 (record {
      recorded = record {
        settings = limits;
        names = n_is.1.1;
        named = n_is.1.0;
        logs = l_is.1.0;
        objects = l_is.1.1.0;
        monitors = l_is.1.1.1;
        few = j_is.1.0;
        journal = j_is.1.1;
        trails = t_is.1;
      };
      spelled = whole;
    })

-- ---- what is spelled is read

pub trace_again : (r : Recorded) → IsRecorded r → trace_at (trace r) ≡ Some r
unfolding trace_at run_at trace
trace_again r is =
    let s = r.settings in
    let t = flat_map trail r.trails in
    let j = journal r.journal ++ t in
    let l = flat_map row r.logs.logs ++ j in
    let n = flat_map name r.names ++ l in
    let trails = (exact_trails r.logs.logs (few_feeders r.logs is.logs.limits.each)).again r.trails [] is.trails in
    let end : trails_at r.logs.logs t ≡ Some (r.trails, []) = ap (trails_at r.logs.logs) (sym (append-nil t)) ∙ trails in
    rw (
      exact_setup.again s n is.settings,
      (exact_names s.objects).again r.names l (is.named, is.names),
      (exact_logs s.objects s.monitors is.settings.objects is.settings.monitors).again r.logs j (is.logs, (is.objects, is.monitors)),
      (exact_journal s.monitors is.settings.monitors).again r.journal t (is.few, is.journal),
      end,
    ) refl

pub trace_read : (bytes : List ℕ) (r : Recorded) → IsTrace bytes r → trace_at bytes ≡ Some r
trace_read bytes r is = ap trace_at is.spelled ∙ trace_again r is.recorded

-- a trace is of one run
pub one_run : (bytes : List ℕ) (a b : Recorded) → IsTrace bytes a → IsTrace bytes b → a ≡ b
one_run bytes a b left right = some_is a b (sym (trace_read bytes a left) ∙ trace_read bytes b right)

-- ---- what a reader's answer says of traces

pub read_is : {X : Type 0} (view : X → Recorded) (bytes : List ℕ) (result : Result X ParseFault) → IsBytes bytes → Gives view result (trace_at bytes) → IfOk result (λ x. IsTrace bytes (view x))
read_is view bytes (Ok x) fits gives = trace_taken bytes (view x) fits gives
read_is view bytes (Err e) fits gives = tt

pub read_only : {X : Type 0} (view : X → Recorded) (bytes : List ℕ) (result : Result X ParseFault) → Gives view result (trace_at bytes) → (r : Recorded) → IsTrace bytes r → IfOk result (λ x. view x ≡ r)
read_only view bytes (Ok x) gives r is = some_is (view x) r (sym gives ∙ trace_read bytes r is)
read_only view bytes (Err e) gives r is = tt

no_some : {X : Type 0} (x : X) (o : Option X) → o ≡ None → o ≡ Some x → ⊥
no_some x o none some = absurd cc

pub read_refused : {X : Type 0} (view : X → Recorded) (bytes : List ℕ) (result : Result X ParseFault) → Gives view result (trace_at bytes) → (r : Recorded) → IsTrace bytes r → IsErrOf result fault.NotATrace → ⊥
read_refused view bytes (Ok x) gives r is refused = absurd cc
read_refused view bytes (Err fault.NotATrace) gives r is refused = no_some r (trace_at bytes) gives (trace_read bytes r is)
read_refused view bytes (Err fault.NoMemory) gives r is refused = absurd cc

-- Once an Assign is taken and nothing is owed, a Report or Settled under its number was sent.
use Rattle.tk_frames.specs.declared.frame.Frame.TheVariants as f
use Rattle.std.proofs.Common.{◌≡◌, ℕ, ◌+◌, ◌≤◌, Bool, true, false, cond, List, [], ◌∷◌, ◌++◌, Option, Some, None, refl, ap, ◌∙◌, arith}
use Rattle.std.specs.Prelude.{count_by}
use Rattle.std.proofs.lemmas.Bool.{eq-eqb}
use Rattle.std.proofs.lemmas.List.Sums.{sum_by_push}
use Rattle.tk_base.proofs.HistoryLemmas.{each_carries}
use Rattle.tk_frames.specs.declared.frame.Frame.{Frame}
use Rattle.tk_trail.specs.Setup.{MonitorSetup}
use Rattle.tk_trail.specs.Frames.{owed_at, owed_after}
use Rattle.tk_trail.specs.Legal.{Allowed, IsLegal}
use Rattle.tk_trail.specs.Readings.{is_broken, seq_of, sent_by}
use Rattle.tk_trail.specs.Refusal.{refusal_of}
use Rattle.tk_trail.specs.declared.entry.Entry.{Entry}
use Rattle.tk_trail.specs.declared.entry.Entry.TheVariants.{Raised, Took, Sent}
use Rattle.tk_trail.proofs.ReadingsLemmas.{sent_by-raised, sent_by-took, sent_by-sent, seq_of-raised, seq_of-sent, seq_of-other}
use Rattle.tk_trail.proofs.LegalLemmas.{not_refused}
use Rattle.tk_trail.specs.Still.{answers_under}
use Rattle.tk_frames.specs.Carried.{is_numbered}
use Rattle.tk_trail.proofs.SendsLemmas.{Sends, last_entry, last-push, numbered_answer, sends}
use Rattle.tk_trail.proofs.SendsLemmas.Sends.{Answered, Gathered, Reported, Ended}

assigned : Option Entry → Bool
assigned (Some (Took (f.Assign seq members changes))) = true
assigned last = false

one : Bool → ℕ
one b = cond b 1 0

-- answered, or just assigned
abbrev IsAnswered : List Entry → Type 0
IsAnswered t = 1 ≤ seq_of t → 1 ≤ answers_under (seq_of t) t + one (assigned (last_entry t))

unowed_assigned : (setup : MonitorSetup) (t : List Entry) (last : Option Entry) → owed_after setup t last ≡ None → assigned last ≡ false
unfolding assigned
unowed_assigned setup t None none = refl
unowed_assigned setup t (Some (Raised g)) none = refl
unowed_assigned setup t (Some (Sent frame)) none = refl
unowed_assigned setup t (Some (Took (f.Assign seq members changes))) none = absurd (cc)
unowed_assigned setup t (Some (Took (f.Collect round asked))) none = refl
unowed_assigned setup t (Some (Took (f.Hello run version mon))) none = refl
unowed_assigned setup t (Some (Took (f.Report seq border failed values))) none = refl
unowed_assigned setup t (Some (Took (f.Values round seq border values))) none = refl
unowed_assigned setup t (Some (Took (f.Settled seq last places))) none = refl
unowed_assigned setup t (Some (Took f.Stop)) none = refl

not_assigned : (setup : MonitorSetup) (t : List Entry) → owed_at setup t ≡ None → assigned (last_entry t) ≡ false
unfolding owed_at
not_assigned setup t none = unowed_assigned setup t (last_entry t) none

-- entries that send no answer and take no Assign
kept : (setup : MonitorSetup) (t t' : List Entry) → owed_at setup t ≡ None → seq_of t' ≡ seq_of t → sent_by t' ≡ sent_by t → IsAnswered t → IsAnswered t'
unfolding one
kept setup t t' none seq sent h some =
    let old = h (omega (arith, some, seq)) in
    let flag = ap one (not_assigned setup t none) in
    let same : answers_under (seq_of t') t' ≡ answers_under (seq_of t) t = ap (λ a. answers_under a t') seq ∙ ap (count_by (is_numbered (seq_of t))) sent in
    omega (arith, old, flag, same)

more : (t : List Entry) (frame : Frame) → answers_under (seq_of (t ++ Sent frame ∷ [])) (t ++ Sent frame ∷ []) ≡ answers_under (seq_of t) t + one (is_numbered (seq_of t) frame)
unfolding one
more t frame = ap (λ a. answers_under a (t ++ Sent frame ∷ [])) (seq_of-sent t frame) ∙ ap (count_by (is_numbered (seq_of t))) (sent_by-sent t frame) ∙ sum_by_push (λ x. cond (is_numbered (seq_of t) x) 1 0) (sent_by t) frame

sent_kept : (t : List Entry) (frame : Frame) → assigned (last_entry t) ≡ false → IsAnswered t → IsAnswered (t ++ Sent frame ∷ [])
unfolding one
sent_kept t frame no' h some =
    let seq = seq_of-sent t frame in
    let old = h (omega (arith, some, seq)) in
    let flag = ap one no' in
    let now = more t frame in
    omega (arith, old, flag, now)

sent_answered : (setup : MonitorSetup) (t : List Entry) (frame : Frame) → Sends setup t frame → IsAnswered t → IsAnswered (t ++ Sent frame ∷ [])
unfolding one assigned
sent_answered setup t frame (Answered seq members changes last e) h some =
    let number : is_numbered (seq_of t) frame ≡ true = ap (is_numbered (seq_of t)) e ∙ numbered_answer setup t (is_broken setup t) (seq_of t) ∙ eq-eqb (seq_of t) (seq_of t) refl in
    let flag = ap one number in
    let now = more t frame in
    omega (arith, flag, now)
sent_answered setup t frame (Gathered round asked last e) h some = sent_kept t frame (ap assigned last) h some
sent_answered setup t frame (Reported unowed free broken e) h some = sent_kept t frame (not_assigned setup t unowed) h some
sent_answered setup t frame (Ended unowed free calm ends told e) h some = sent_kept t frame (not_assigned setup t unowed) h some

answered_took : (setup : MonitorSetup) (t : List Entry) (frame : Frame) → owed_at setup t ≡ None → refusal_of setup t frame ≡ None → IsAnswered t → IsAnswered (t ++ Took frame ∷ [])
unfolding one assigned
answered_took setup t (f.Assign seq members changes) none ok h some = let flag = ap one (ap assigned (last-push t (Took (f.Assign seq members changes)))) in omega (arith, flag)
answered_took setup t (f.Collect round asked) none ok h some = kept setup t (t ++ Took (f.Collect round asked) ∷ []) none (seq_of-other t (f.Collect round asked) refl) (sent_by-took t (f.Collect round asked)) h some
answered_took setup t f.Stop none ok h some = kept setup t (t ++ Took f.Stop ∷ []) none (seq_of-other t f.Stop refl) (sent_by-took t f.Stop) h some
answered_took setup t (f.Hello run version mon) none ok h some = absurd (let go = (not_refused setup t (f.Hello run version mon) ok).1 in cc)
answered_took setup t (f.Report seq border failed values) none ok h some = absurd (let go = (not_refused setup t (f.Report seq border failed values) ok).1 in cc)
answered_took setup t (f.Values round seq border values) none ok h some = absurd (let go = (not_refused setup t (f.Values round seq border values) ok).1 in cc)
answered_took setup t (f.Settled seq last places) none ok h some = absurd (let go = (not_refused setup t (f.Settled seq last places) ok).1 in cc)

answered_go : (setup : MonitorSetup) (t : List Entry) (e : Entry) → IsAnswered t → Allowed setup t e → IsAnswered (t ++ e ∷ [])
answered_go setup t (Raised g) h allowed = kept setup t (t ++ Raised g ∷ []) allowed.0 (seq_of-raised t g) (sent_by-raised t g) h
answered_go setup t (Took frame) h allowed = answered_took setup t frame allowed.0 allowed.1 h
answered_go setup t (Sent frame) h allowed = sent_answered setup t frame (sends setup t frame allowed) h

pub is_answered : (setup : MonitorSetup) (t : List Entry) → IsLegal setup t → 1 ≤ seq_of t → 1 ≤ answers_under (seq_of t) t
unfolding one
is_answered setup t legal some =
    let h = each_carries (Allowed setup) IsAnswered (λ front e. answered_go setup front e) [] t (λ none. absurd (omega (arith, none))) legal.each some in
    let flag = ap one (not_assigned setup t legal.answered) in
    omega (arith, h, flag)

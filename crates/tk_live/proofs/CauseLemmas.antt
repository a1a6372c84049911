-- Why workers ended.
use Rattle.std.proofs.Common.{◌≡◌, ℕ, List, [], ◌∷◌, ◌++◌, Bool, true, false, Option, None, Some, refl}
use Rattle.std.proofs.lemmas.List.Sums.{fold_push}
use Rattle.std.specs.Prelude.{is_some, if◌then◌else◌}
use Rattle.tk_serve.specs.Serving.{has_failed, why_of}
use Rattle.tk_serve.specs.declared.served.Why.{Why}
use Rattle.tk_serve.specs.declared.served.Why.TheVariants as w
use Rattle.tk_story.specs.declared.ends.mon_end.MonEnd.{MonEnd}
use Rattle.tk_story.specs.declared.ends.received.Received.{Received}
use Rattle.tk_trail.specs.Readings.{is_stopped}
use Rattle.tk_wire.specs.Meanings.{Counts}
use Rattle.tk_live.specs.Crew.{IsCalm, graver, gravest}

pub gravest_push : (causes : List Why) (cause : Why) → gravest (causes ++ cause ∷ []) ≡ graver (gravest causes) cause
gravest_push causes cause = fold_push graver w.Stopped causes cause

-- the graver of two is Stop only where both are
pub stopped_both : (cause next : Why) → graver cause next ≡ w.Stopped → (cause ≡ w.Stopped) × (next ≡ w.Stopped)
stopped_both w.Odd next is = absurd (cc)
stopped_both w.NoMemory next is = absurd (cc)
stopped_both w.Stopped next is = (refl, is)
stopped_both w.Failed w.Stopped is = absurd (cc)
stopped_both w.Failed w.Failed is = absurd (cc)
stopped_both w.Failed w.Odd is = absurd (cc)
stopped_both w.Failed w.NoMemory is = absurd (cc)

by_flags : (odd stopped failed : Bool) → (if odd then w.Odd else (if stopped then w.Stopped else (if failed then w.Failed else w.NoMemory))) ≡ w.Stopped → stopped ≡ true
by_flags true stopped failed is = absurd (cc)
by_flags false true failed is = refl
by_flags false false true is = absurd (cc)
by_flags false false false is = absurd (cc)

-- who ended by Stop took it
pub why_stopped : (end : MonEnd) (link : Counts) (rest : ℕ) → why_of end link rest ≡ w.Stopped → is_stopped end.monitor.trail ≡ true
why_stopped end link rest is = by_flags (is_some end.odd) (is_stopped end.monitor.trail) (has_failed link rest) is

-- the graver of two is Stop or a fault only where each is
pub calm_both : (cause next : Why) → IsCalm (graver cause next) → IsCalm cause × IsCalm next
calm_both w.Odd next is = absurd is
calm_both w.NoMemory next is = absurd is
calm_both w.Stopped next is = (tt, is)
calm_both w.Failed w.Stopped is = (tt, tt)
calm_both w.Failed w.Failed is = (tt, tt)
calm_both w.Failed w.Odd is = absurd is
calm_both w.Failed w.NoMemory is = absurd is

calm_by : (odd : Option Received) (stopped failed : Bool) → IsCalm (if is_some odd then w.Odd else (if stopped then w.Stopped else (if failed then w.Failed else w.NoMemory))) → odd ≡ None
calm_by None stopped failed is = refl
calm_by (Some received) stopped failed is = absurd is

-- who ended by Stop or a fault took all that came
pub why_calm : (end : MonEnd) (link : Counts) (rest : ℕ) → IsCalm (why_of end link rest) → end.odd ≡ None
why_calm end link rest is = calm_by end.odd (is_stopped end.monitor.trail) (has_failed link rest) is

-- What stands behind the logs, read in parts, is read as in one.
use Rattle.std.proofs.Common.{◌≡◌, ℕ, ℤ, List, [], ◌∷◌, Some, None, refl, sym}
use Rattle.tk_base.specs.Settings.{Setup}
use Rattle.tk_input.specs.Logs.{LogSet}
use Rattle.tk_frames.specs.Reading.{Found, ◌>>=◌}
use Rattle.tk_journal.specs.declared.noted.Noted.{Noted}
use Rattle.tk_trail.specs.declared.entry.Entry.{Entry}
use Rattle.tk_trace.specs.Behind.{behind_logs_at, histories_at, last_trails_at}
use Rattle.tk_trace.specs.Reading.{Fails, at_the_end, journal_at, trails_at}
use Rattle.tk_trace.specs.Recorded.{Recorded}
use Rattle.tk_trace.specs.declared.fault.ParseFault.{ParseFault}
use Rattle.tk_trace.specs.declared.fault.ParseFault.TheVariants as fault

-- the two histories behind these settings, names and logs
abbrev over : Setup → List (List ℕ) → LogSet → List Noted × List (List Entry) → Recorded
over settings names logs h = record { names = names; settings = settings; logs = logs; journal = h.0; trails = h.1 }

trails_last : {R : Type 0} (told : List Noted × List (List Entry) → R) (journal : List Noted) (trails : Found (List (List Entry)))
    → (trails >>= λ t. at_the_end (told (journal, t.0)) t.1) ≡ (((trails >>= λ t. at_the_end t.0 t.1) >>= λ t. Some (journal, t)) >>= λ h. Some (told h))
trails_last told journal (Some (trails, [])) = refl
trails_last told journal (Some (trails, b ∷ rest)) = refl
trails_last told journal None = refl

histories_last : {R : Type 0} (told : List Noted × List (List Entry) → R) (logs : List (List (List (ℕ × ℤ)))) (journal : Found (List Noted))
    → (journal >>= λ j. trails_at logs j.1 >>= λ t. at_the_end (told (j.0, t.0)) t.1) ≡ ((journal >>= λ j. last_trails_at logs j.1 >>= λ t. Some (j.0, t)) >>= λ h. Some (told h))
histories_last told logs (Some j) = trails_last told j.0 (trails_at logs j.1)
histories_last told logs None = refl

pub behind_is : (settings : Setup) (names : List (List ℕ)) (logs : LogSet) (bytes : List ℕ) → behind_logs_at settings names logs bytes ≡ (histories_at settings.monitors logs.logs bytes >>= λ h. Some (over settings names logs h))
behind_is settings names logs bytes = histories_last (over settings names logs) logs.logs (journal_at settings.monitors bytes)

-- both histories were read
pub behind_found : (settings : Setup) (names : List (List ℕ)) (logs : LogSet) (monitors : ℕ) (bytes : List ℕ) (h : List Noted × List (List Entry)) → monitors ≡ settings.monitors → histories_at monitors logs.logs bytes ≡ Some h
    → behind_logs_at settings names logs bytes ≡ Some (over settings names logs h)
behind_found settings names logs monitors bytes h here found = rw (behind_is settings names logs bytes, sym here, found) refl

-- they were not
pub behind_failed : (e : ParseFault) (settings : Setup) (names : List (List ℕ)) (logs : LogSet) (monitors : ℕ) (bytes : List ℕ) → monitors ≡ settings.monitors → Fails e (histories_at monitors logs.logs bytes) → Fails e (behind_logs_at settings names logs bytes)
behind_failed fault.NoMemory settings names logs monitors bytes here failed = tt
behind_failed fault.NotATrace settings names logs monitors bytes here failed = rw (behind_is settings names logs bytes, sym here, failed) refl

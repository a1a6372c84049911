-- What a node received next and did not take.
use Rattle.std.specs.Prelude.{ℕ, ◌≡◌, ◌⊎◌, List, length, Option, IsSome}
use Rattle.tk_base.specs.Settings.{Setup}
use Rattle.tk_base.specs.declared.ids.Mon.{Mon}
use Rattle.tk_frames.specs.Answer.{HasBadLength}
use Rattle.tk_frames.specs.Spelling.{IsFrame, IsLength, IsVersion, payload}
use Rattle.tk_frames.specs.declared.frame.Frame.{Frame}
use Rattle.tk_journal.specs.Laws.{IsMonitor}
use Rattle.tk_journal.specs.Refusal.{refusal_of as refusal_up}
use Rattle.tk_journal.specs.declared.noted.Noted.{Noted}
use Rattle.tk_trail.specs.Refusal.{refusal_of as refusal_down}
use Rattle.tk_trail.specs.Setup.{MonitorSetup}
use Rattle.tk_trail.specs.declared.entry.Entry.{Entry}
use Rattle.tk_story.specs.declared.ends.received.Received.{Received}
use Rattle.tk_story.specs.declared.ends.received.Received.TheVariants as r

-- a whole payload that is no frame's in one of the versions
pub record IsNoPayload (bytes : List ℕ) : Type 0 where
  pub size : IsLength (length bytes)
  pub version : ℕ
  pub is_version : IsVersion version
  pub no_frame : (frame : Frame) → IsFrame frame → bytes ≡ payload version frame → ⊥

-- four bytes of a length that no payload has
pub record IsNoLength (bytes : List ℕ) : Type 0 where
  pub whole : length bytes ≡ 4
  pub size : ℕ
  pub no_length : HasBadLength size bytes

-- bytes that are no frame: a whole payload, or the four bytes of a length
abbrev pub IsNoFrame : List ℕ → Type 0
IsNoFrame bytes = IsNoPayload bytes ⊎ IsNoLength bytes

-- what no node takes that refuses frames so: a frame that some test refuses, or bytes that are no frame
abbrev pub IsNotTaken : {R : Type 0} → (Frame → Option R) → Received → Type 0
IsNotTaken refusal (r.Frame frame) = IsSome (refusal frame)
IsNotTaken refusal (r.Bytes bytes) = IsNoFrame bytes

-- what a monitor does not take over its trail
abbrev pub IsOddDown : MonitorSetup → List Entry → Received → Type 0
IsOddDown setup trail received = IsNotTaken (refusal_down setup trail) received

-- what the coordinator does not take, of one of its monitors, over its journal
abbrev pub IsOddUp : Setup → List Noted → Mon × Received → Type 0
IsOddUp settings journal odd = IsMonitor settings odd.0.0 × IsNotTaken (refusal_up settings journal odd.0.0) odd.1

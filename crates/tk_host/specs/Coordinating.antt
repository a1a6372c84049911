-- What a coordinator's process does: its sessions, what is written of them, and how it ends.
use Rattle.std.specs.Prelude.{ℕ, ◌≡◌, ◌⊎◌, ◌-◌, ◌^◌, List, [], ◌++◌, length, All, unwrap_or, Option, Some, None, Result, Ok, Err, IfSome}
use Rattle.std.specs.List.{cons_option}
use Rattle.tk_base.specs.Settings.{Setup}
use Rattle.tk_input.specs.Files.{one_more}
use Rattle.tk_input.specs.Sink.{Grows, GrowsByFront}
use Rattle.tk_host.specs.Session.{IsEnded, IsSession, PastSession}
use Rattle.tk_host.specs.Text.{listening_text, sessions_text}
use Rattle.tk_host.specs.declared.coordinated.Coordinated.{Coordinated}
use Rattle.tk_host.specs.declared.coordinated.Coordinated.TheVariants as d
use Rattle.tk_host.specs.declared.over.Over.TheVariants as o

-- ---- what is written

-- what was written of a text by a process that ends so: where the sink failed, or memory was wanted, a front of it
abbrev pub WritesEnding : Coordinated → Option (List ℕ) → Option (List ℕ) → List ℕ → Type 0
WritesEnding d.Done before now text = Grows before now text
WritesEnding d.WriteFault before now text = GrowsByFront before now text
WritesEnding d.NoMemory before now text = GrowsByFront before now text
WritesEnding d.LinkFault before now text = Grows before now text

-- the same where it may go on
abbrev pub WritesOn : {A : Type 0} → Result A Coordinated → Option (List ℕ) → Option (List ℕ) → List ℕ → Type 0
WritesOn (Ok x) before now text = Grows before now text
WritesOn (Err end) before now text = WritesEnding end before now text

-- the first line, where the host listens at an address
abbrev pub opening_text : Option (List ℕ) → List ℕ
opening_text None = []
opening_text (Some address) = listening_text address

-- the text of a process
abbrev pub run_text : List (List ℕ) → Option (List ℕ) → List PastSession → List ℕ
run_text names address sessions = opening_text address ++ sessions_text names 1 sessions

-- ---- the sessions

-- a session behind which another one follows
abbrev pub IsFollowed : PastSession → Type 0
IsFollowed s = IsEnded s.over

-- a session in which the final set was told
abbrev pub IsFinal : Option PastSession → Type 0
IsFinal None = ⊥
IsFinal (Some s) = s.over ≡ o.Finished

-- the process is done: the last session has told the final set, or as many sessions have ended as were asked for; where no
-- number was asked for, as many as a u64 counts
abbrev pub IsDone : Option ℕ → List PastSession → Option PastSession → Type 0
IsDone limit past last = IsFinal last ⊎ (length past ≡ unwrap_or limit (2 ^ 64 - 1))

-- a process that ended so: there are sessions, each over these settings, with stand-ins after so many seconds, if at all; all but
-- the last one ended by a cause; the text of these sessions was written
pub record Coordinates (end : Coordinated) (names : List (List ℕ)) (settings : Setup) (missing limit : Option ℕ) (before now : Option (List ℕ)) : Type 0 where
  pub address : Option (List ℕ)
  pub past : List PastSession
  pub last : Option PastSession
  pub each : All (IsSession settings missing) past
  pub each_followed : All IsFollowed past
  pub last_is : IfSome last (IsSession settings missing)
  pub written : WritesEnding end before now (run_text names address (past ++ cons_option last []))
  pub done : end ≡ d.Done → IsDone limit past last

-- ---- faults

-- how many puts failed after the process: one more exactly where a line was not written
abbrev pub run_faults : Coordinated → ℕ → ℕ
run_faults d.Done faults = faults
run_faults d.WriteFault faults = one_more faults
run_faults d.NoMemory faults = faults
run_faults d.LinkFault faults = faults

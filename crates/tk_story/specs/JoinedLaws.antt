-- What holds of one end of a story beside the other.
use Rattle.std.specs.Prelude.{ℕ, ◌≤◌, List, ◌+◌, ◌≡◌, None, ◌∷◌, ◌++◌}
use Rattle.tk_frames.specs.declared.frame.Frame.{Frame}
use Rattle.tk_journal.specs.Laws.{IsMonitor}
use Rattle.tk_journal.specs.Legal.{Opening}
use Rattle.tk_journal.specs.Links.{frames_to, frames_from}
use Rattle.tk_journal.specs.Readings.{assigns_sent}
use Rattle.tk_journal.specs.Refusal.{refusal_of as refusal_up}
use Rattle.tk_journal.specs.declared.noted.Noted.{Noted}
use Rattle.tk_story.specs.Links.{IsJoined}
use Rattle.tk_story.specs.Story.{IsStory, StoryView, setup_of, trail_of}
use Rattle.tk_trail.specs.Readings.{seq_of, taken_by, sent_by}
use Rattle.tk_trail.specs.Refusal.{refusal_of}
use Rattle.tk_trail.specs.Setup.{MonitorSetup, IsSetup}
use Rattle.tk_trail.specs.declared.entry.Entry.{Entry}

-- a monitor took at most the Assigns that were sent to it
abbrev pub TookWhatWasSent : Type 0
TookWhatWasSent =
    (o : Opening) (j : List Noted) (mon : ℕ) (setup : MonitorSetup) (trail : List Entry)
    → IsJoined o j mon setup trail → seq_of trail ≤ assigns_sent mon j

-- it took all of them, or all but the last
abbrev pub TookAllButTheLast : Type 0
TookAllButTheLast =
    (o : Opening) (j : List Noted) (mon : ℕ) (setup : MonitorSetup) (trail : List Entry)
    → IsJoined o j mon setup trail → assigns_sent mon j ≤ seq_of trail + 1

-- the next frame of a down link of a story is not refused
abbrev pub NextFrameDownIsTaken : Type 0
NextFrameDownIsTaken =
    (s : StoryView) (mon : ℕ) (frame : Frame) (rest : List Frame)
    → IsStory s → IsMonitor s.settings mon → frames_to mon s.journal ≡ taken_by (trail_of s mon) ++ frame ∷ rest
    → refusal_of (setup_of s mon) (trail_of s mon) frame ≡ None

-- the next frame of an up link of a story is not refused
abbrev pub NextFrameUpIsTaken : Type 0
NextFrameUpIsTaken =
    (s : StoryView) (mon : ℕ) (frame : Frame) (rest : List Frame)
    → IsStory s → IsMonitor s.settings mon → sent_by (trail_of s mon) ≡ frames_from mon s.journal ++ frame ∷ rest
    → refusal_up s.settings s.journal mon frame ≡ None

-- over any opening a monitor whose trail is joined to the journal does not refuse the next frame
abbrev pub JoinedMonitorTakesTheNextFrame : Type 0
JoinedMonitorTakesTheNextFrame =
    (o : Opening) (j : List Noted) (mon : ℕ) (setup : MonitorSetup) (trail : List Entry) (frame : Frame)
    (rest : List Frame)
    → IsJoined o j mon setup trail → setup.objects ≡ o.settings.objects
    → frames_to mon j ≡ taken_by trail ++ frame ∷ rest → refusal_of setup trail frame ≡ None

-- nor does the journal refuse the next frame of such a monitor
abbrev pub JoinedJournalTakesTheNextFrame : Type 0
JoinedJournalTakesTheNextFrame =
    (o : Opening) (j : List Noted) (mon : ℕ) (setup : MonitorSetup) (trail : List Entry) (frame : Frame)
    (rest : List Frame)
    → IsJoined o j mon setup trail → IsSetup setup → setup.objects ≡ o.settings.objects
    → sent_by trail ≡ frames_from mon j ++ frame ∷ rest → refusal_up o.settings j mon frame ≡ None

-- Sessions as contracts see them, and what an order makes of them.
use Rattle.std.specs.Prelude.{◌≡◌, List, [], ◌∷◌, ◌++◌, fold}
use Rattle.tk_base.specs.History.{IsFront}
use Rattle.tk_story.specs.Kept.{KeptStory}
use Rattle.tk_story.specs.Moments.{IsOver, cut_of}
use Rattle.tk_story.specs.Story.{IsStory}
use Rattle.tk_drain.specs.Drive.{IsFinishing, keep}
use Rattle.tk_session.specs.Chain.{begun}
use Rattle.tk_session.specs.declared.session_line.SessionLine.{SessionLine}
use Rattle.tk_session.specs.declared.session_line.SessionLine.TheVariants.{Step, Restart}

-- the sessions that a restart ended, and the one that goes on
pub record SessionsView : Type 0 where
  pub past : List KeptStory
  pub present : KeptStory

-- all of them, in order
abbrev pub all_of : SessionsView → List KeptStory
all_of sessions = sessions.past ++ sessions.present ∷ []

-- the sessions once the coordinator restarts: what was present is past as it stands, and the next begins at its cut
abbrev pub restarted : SessionsView → SessionsView
restarted old = record {
  past = all_of old;
  present = begun old.present.story.settings old.present.story.logs (cut_of old.present.story);
}

-- the sessions after a line: an event is kept where it is enabled, and passed over where it is not
abbrev pub with_line : SessionsView → SessionLine → SessionsView
with_line old (Step event) = record old { present = keep old.present event }
with_line old Restart = restarted old

-- the sessions after some lines
abbrev pub played : SessionsView → List SessionLine → SessionsView
played old lines = fold with_line old lines

-- the sessions after a front of some lines
pub record PlaysFront (lines : List SessionLine) (old new : SessionsView) : Type 0 where
  pub front : List SessionLine
  pub is_front : IsFront front lines
  pub is : new ≡ played old front

-- the stories of some sessions, of which the last was finished
pub record AreFinished (sessions : SessionsView) (stories : List KeptStory) : Type 0 where
  pub last : KeptStory
  pub legal : IsStory last.story
  pub finished : IsFinishing sessions.present last
  pub over : IsOver last.story
  pub are : stories ≡ sessions.past ++ last ∷ []

-- What a drive leads to.
use Rattle.std.proofs.Common.{◌≡◌, ℕ, List, [], Some, sym, ap, ◌∙◌, subst}
use Rattle.tk_base.specs.Settings.{Setup}
use Rattle.tk_input.specs.Logs.{LogSet}
use Rattle.tk_input.specs.declared.event.Event.{Event}
use Rattle.tk_story.specs.Kept.{KeptStory}
use Rattle.tk_story.specs.Story.{IsStory, StoryView}
use Rattle.tk_world.specs.Events.{after, begin}
use Rattle.tk_world.specs.Runs.{RunsBy}
use Rattle.tk_world.proofs.ReadLemmas.{reads}
use Rattle.tk_drain.specs.Drive.{Drives, IsFinishing, IsReached, keep_all}
use Rattle.tk_drain.specs.Resting.{RunsFrom}
use Rattle.tk_drain.proofs.PassingLemmas.{finishes_reached, kept_reached, reached_join, settles_reached}
use Rattle.tk_drain.proofs.RaiseLemmas.{run_alike}

pub finished_reached : (begun end : KeptStory) → IsFinishing begun end → IsReached begun end
finished_reached begun end f = reached_join begun f.settled end (settles_reached begun f.settled f.count f.settles) (finishes_reached _ f.settled end f.finishes)

pub driven_reached : (order : List Event) (begun end : KeptStory) → Drives order begun end → IsReached begun end
driven_reached order begun end d = reached_join begun (keep_all begun order) end (kept_reached begun order) (finished_reached (keep_all begun order) end d.finished)

same_begin : (s t : Setup) (l m : LogSet) (f g : List (List ℕ)) → t ≡ s → m ≡ l → g ≡ f → begin s l f ≡ begin t m g
same_begin s t l m f g a b c = ap (λ z. begin z l f) (sym a) ∙ ap (λ z. begin t z f) (sym b) ∙ ap (λ z. begin t m z) (sym c)

pub reached_runs : (settings : Setup) (logs : LogSet) (from : List (List ℕ)) (end : KeptStory) → IsStory end.story → IsReached (record { story = begin settings logs from; events = [] }) end → RunsFrom settings logs from end
reached_runs settings logs from end h r =
    let s = end.story in
    let alike = run_alike (begin settings logs from) s r.events r.runs in
    let there : after (Some (begin s.settings s.logs s.from)) r.events ≡ Some s =
    ap (λ (b : StoryView). after (Some b) r.events) (sym (same_begin settings s.settings logs s.logs from s.from alike.settings alike.logs alike.from)) ∙ r.runs in
    record {
      settings_is = alike.settings;
      logs_is = alike.logs;
      from_is = alike.from;
      runs = subst (RunsBy s) (sym r.kept_too) (reads s r.events h there);
    }

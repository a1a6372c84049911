-- Each turn of a taken frame fits one of the records.
use Rattle.tk_journal.specs.declared.noted.Noted.TheVariants as n
use Rattle.std.proofs.Common.{◌≡◌, ℕ, suc, zero, Some, refl, sym, subst}
use Rattle.tk_base.specs.declared.ids.Mon.{Mon}
use Rattle.tk_frames.specs.declared.frame.Frame.{Frame}
use Rattle.tk_journal.specs.Laws.{IsMonitor}
use Rattle.tk_journal.specs.Legal.{start}
use Rattle.tk_journal.specs.Links.{frames_from}
use Rattle.tk_journal.specs.Turns.{demanded}
use Rattle.tk_journal.proofs.LawLemmas.{one_less, orderly}
use Rattle.tk_trail.specs.Readings.{sent_by}
use Rattle.tk_drain.specs.Moves.{Readings}
use Rattle.tk_journal.specs.Shapes.{Shape}
use Rattle.tk_journal.specs.Shapes.Shape.{Plain, Short, Wide, Full, LoneEnd, LoneWide, EndFull, EndOver, EndWide}
use Rattle.tk_drain.proofs.MoveLemmas.{FallsBy, ends_falls, lone_falls, lone_opens_falls, next_falls, opens_falls, plain_falls, short_falls}
use Rattle.tk_world.specs.Events.{is_monitor, moved, next_of, next_up, with_turn, up_at}
use Rattle.tk_story.specs.Story.{IsStory, StoryView, setup_of, trail_of}
use Rattle.tk_story.proofs.QuietLemmas.{joined, setup_is}
use Rattle.tk_world.proofs.StepLemmas.{next_is, next_is_story, mapped_some, guarded, monitor_is}
use Rattle.tk_story.proofs.UpLemmas.{up_is_taken}
use Rattle.tk_drain.specs.Fits.{Fits, FitsOne}
use Rattle.tk_drain.specs.Fits.Fits.{IsPlain, IsShort, Opens, Ends, OpensNext, Lone, LoneOpens}
use Rattle.tk_drain.specs.Reads.{readings}
use Rattle.tk_drain.proofs.TurnReads.{Turning, mid, stops_count, turned}
use Rattle.tk_drain.proofs.TurnFalls.{end_over_fits, full_fits, lone_wide_fits, plain_fits, wide_fits}
use Rattle.tk_drain.proofs.AssignFalls.{end_full_fits, lone_fits}
use Rattle.tk_drain.proofs.ShortFalls.{short_fits, to_one}
use Rattle.tk_drain.proofs.WideFalls.{end_wide_fits}

unfoldable pub fits_by : (s : StoryView) (from : Mon) (frame : Frame) → Turning s from frame → Shape s.settings s.journal from frame (demanded s.settings s.journal from.0 frame)
    → FitsOne s.settings.monitors from.0 (readings s) (readings (turned s from frame))
fits_by s from frame t (Plain e fails same resting) = record { opened = 0; fits = IsPlain (stops_count s.settings (mid s from frame)) (plain_fits s from frame t e fails same) }
fits_by s from frame t (Short border failed values r passes within e) = record { opened = 0; fits = IsShort (stops_count s.settings (mid s from frame)) (to_one from.0) (short_fits s from frame t border failed values r passes e) }
fits_by s from frame t (Wide border failed values r e) = record { opened = 1; fits = Opens (stops_count s.settings (mid s from frame)) (λ _. 1) (wide_fits s from frame t border failed values r e) }
fits_by s from frame t (Full border failed values r fails few lone e) = record { opened = 1; fits = Opens (stops_count s.settings (mid s from frame)) (λ _. 1) (full_fits s from frame t border failed values r fails few lone e) }
fits_by s from frame t (LoneEnd border failed values r fails few lone within e) = record { opened = 1; fits = Lone (stops_count s.settings (mid s from frame)) (λ _. 1) (lone_fits s from frame t border failed values r fails few lone e) }
fits_by s from frame t (LoneWide border failed values r fails few lone e) = record { opened = 2; fits = LoneOpens (stops_count s.settings (mid s from frame)) (λ _. 1) (lone_wide_fits s from frame t border failed values r few e) }
fits_by s from frame t (EndFull v full within e) = record { opened = 0; fits = Ends (stops_count s.settings (mid s from frame)) (λ _. 1) (end_full_fits s from frame t v full e) }
fits_by s from frame t (EndOver v full e) = record { opened = 1; fits = OpensNext (stops_count s.settings (mid s from frame)) (λ _. 1) (end_over_fits s from frame t v full e) }
fits_by s from frame t (EndWide v wide e) = record { opened = 0; fits = Ends (stops_count s.settings (mid s from frame)) (λ _. 1) (end_wide_fits s from frame t v wide e) }

pub turning : (s : StoryView) (mon : ℕ) (frame : Frame) → IsStory s → IsMonitor s.settings mon → next_up s mon ≡ Some frame → IsStory (with_turn s (n.Got (record { 0 = mon }) frame)) → Turning s (record { 0 = mon }) frame
turning s mon frame h m next after =
    let trail = trail_of s mon in
    let is = next_is (frames_from mon s.journal) (sent_by trail) frame (h.links mon m).up next in
    let linked = joined s h mon m in
    let less = one_less s.settings.monitors h.limits.some_monitor in
    record {
      story = h;
      monitor = m;
      none = up_is_taken (start s.settings) s.journal mon (setup_of s mon) trail frame is.rest linked (setup_is s h mon m) refl is.is;
      next = is;
      after = after;
      k = less.0;
      some = less.1;
      order = orderly (start s.settings) s.journal linked.set h.journal_legal;
    }

pub record UpStep (s t : StoryView) (mon : ℕ) : Type 0 where
  pub frame : Frame
  pub turning : Turning s (record { 0 = mon }) frame
  pub is : turned s (record { 0 = mon }) frame ≡ t

pub up_step : (s t : StoryView) (mon : ℕ) → IsStory s → next_of s (up_at mon) ≡ Some t → UpStep s t mon
unfolding next_of
up_step s t mon h is =
    let g = guarded (is_monitor s mon) (moved s (up_at mon)) t is in
    let x = mapped_some (λ frame. with_turn s (n.Got (record { 0 = mon }) frame)) (next_up s mon) t g.1 in
    let after = next_is_story s t (up_at mon) h is in
    record { frame = x.0; turning = turning s mon x.0 h (monitor_is s mon g.0) x.1 (subst IsStory (sym x.2) after); is = x.2 }

pub fits_fall : (m at opened : ℕ) (r r' : Readings) → Fits m at r r' opened → FallsBy m at opened r r'
fits_fall m at zero r r' (IsPlain stops x) = plain_falls m at stops r r' x
fits_fall m at zero r r' (IsShort stops sent x) = short_falls m at stops r r' sent x
fits_fall m at (suc zero) r r' (Opens stops sent x) = opens_falls m at stops r r' sent x
fits_fall m at zero r r' (Ends stops sent x) = ends_falls m at stops r r' sent x
fits_fall m at (suc zero) r r' (OpensNext stops sent x) = next_falls m at stops r r' sent x
fits_fall m at (suc zero) r r' (Lone stops sent x) = lone_falls m at stops r r' sent x
fits_fall m at (suc (suc zero)) r r' (LoneOpens stops sent x) = lone_opens_falls m at stops r r' sent x
fits_fall m at (suc (suc (suc opened))) r r' x = elim x [ ]

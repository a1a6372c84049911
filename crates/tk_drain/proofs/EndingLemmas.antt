-- Finishing: the raises that are left bring all parts to their ends, and then the run is over.
use Rattle.std.proofs.Common.{◌≡◌, ℕ, ◌+◌, ◌≤◌, ◌==◌, Bool, true, false, List, [], ◌∷◌, ◌++◌, length, None, refl, sym, ap, ◌∙◌, subst, arith}
use Rattle.std.proofs.lemmas.Bool.{and_parts, eqb-true}
use Rattle.tk_journal.specs.Laws.{IsMonitor}
use Rattle.tk_input.specs.Logs.{LogSet, parts_of}
use Rattle.tk_input.specs.declared.event.Event.{Event}
use Rattle.tk_input.specs.declared.event.Event.TheVariants.{Raise, Check, Up, Down, Retune}
use Rattle.tk_trail.specs.Legal.{part_length}
use Rattle.tk_world.specs.Events.{CanOnlyChange, next_of, raise_at}
use Rattle.tk_world.proofs.IdleLemmas.{idle_is_still}
use Rattle.tk_story.specs.Kept.{KeptStory}
use Rattle.tk_story.specs.Moments.{IsOver}
use Rattle.tk_story.specs.Story.{IsStory, StoryView, setup_of}
use Rattle.tk_story.proofs.OverLemmas.{still_is_over}
use Rattle.tk_drain.specs.Drive.{Finishes, all_raises, keep}
use Rattle.tk_drain.specs.Drive.Finishes.{Done, Passes, Raises}
use Rattle.tk_drain.proofs.KeepLemmas.{Leads, leads_join, leads_none, leads_one, leads_story}
use Rattle.tk_drain.proofs.RestLemmas.{settles_rests}
use Rattle.tk_drain.proofs.RaiseLemmas.{IsAlike, IsFeederOf, alike_join, alike_length, all_ended, idle_ended, is_raise_of, one_if, place, raised_in, run_alike, run_moves, settling_raises_none}
use Rattle.tk_drain.proofs.PassLemmas.{enough_raises}

-- ---- where finishing leads

-- the events that happened, and that nothing but a raise or a retune can happen where it was so before
pub record Finished (a c : KeptStory) : Type 0 where
  pub took : List Event
  pub leads : Leads a c took
  pub idle : CanOnlyChange a.story → CanOnlyChange c.story

pub finishes_leads : (events : List Event) (a c : KeptStory) → Finishes events a c → Finished a c
finishes_leads [] a c (Done kept) = record { took = []; leads = leads_none a; idle = λ idle. idle }
finishes_leads (e ∷ events) a c (Passes event rest kept end none on) = finishes_leads events a c on
finishes_leads (e ∷ events) a c (Raises event rest kept settled end story count some settles on) =
    let r = settles_rests (keep a e) settled count settles in
    let f = finishes_leads events settled c on in
    record {
      took = (e ∷ []) ++ r.calms.took ++ f.took;
      leads = leads_join a settled c ((e ∷ []) ++ r.calms.took) f.took (leads_join a (keep a e) settled (e ∷ []) r.calms.took (leads_one a e story some) r.calms.leads) f.leads;
      idle = λ _. f.idle r.idle;
    }

-- ---- each part comes to its end

-- the raise of a part is the event of its monitor and feeder
raise_of_part : (mon g : ℕ) (e : Event) → is_raise_of mon g e ≡ true → e ≡ raise_at mon g
raise_of_part mon g (Raise m f) is =
    let both = and_parts (m.0 == mon) (f.0 == g) is in
    ap (λ (q : ℕ). Raise (record { 0 = q }) f) (eqb-true m.0 mon both.0) ∙ ap (λ (q : ℕ). Raise (record { 0 = mon }) (record { 0 = q })) (eqb-true f.0 g both.1)
raise_of_part mon g (Check m) is = absurd (cc)
raise_of_part mon g (Up m) is = absurd (cc)
raise_of_part mon g (Down m) is = absurd (cc)
raise_of_part mon g (Retune tuning) is = absurd (cc)

part_there : (s t : StoryView) (mon g : ℕ) → IsAlike s t → IsFeederOf s mon g → IsFeederOf t mon g
part_there s t mon g a f = record {
  monitor = subst (λ z. IsMonitor z mon) (sym a.settings) f.monitor;
  from_one = f.from_one;
  one_of = subst (λ (l : LogSet). g ≤ length (parts_of l.logs mon)) (sym a.logs) f.one_of;
}

passed_by : (s : StoryView) (mon g : ℕ) (e : Event) (b : Bool) (left most : ℕ) → is_raise_of mon g e ≡ b → IsFeederOf s mon g → next_of s e ≡ None → most ≡ part_length (setup_of s mon) g → most ≤ place s mon g + (one_if b + left) → most ≤ place s mon g + left
passed_by s mon g e true left most is f none same low =
    let ended = idle_ended s mon g f (subst (λ z. next_of s z ≡ None) (raise_of_part mon g e is) none) in
    omega (arith, ended, same)
passed_by s mon g e false left most is f none same low = omega (arith, low)

still_enough : (most p q r b left : ℕ) → most ≤ p + (b + left) → q ≡ p + b → r ≡ q + 0 → most ≤ r + left
still_enough most p q r b left low one two = omega (arith, low, one, two)

equal_most : (a b c : ℕ) → a ≡ b → b ≤ c → a ≤ c
equal_most a b c same most = omega (arith, same, most)

none_left : (a b : ℕ) → a ≤ b + 0 → a ≤ b
none_left a b low = omega (arith, low)

-- a part whose raises that are left are enough comes to its end
pub part_ends : (events : List Event) (a c : KeptStory) (mon g most : ℕ) → Finishes events a c → IsStory a.story → IsFeederOf a.story mon g → most ≡ part_length (setup_of a.story mon) g → most ≤ place a.story mon g + raised_in mon g events → most ≤ place c.story mon g
part_ends [] a c mon g most (Done kept) h f same low = none_left most (place a.story mon g) low
part_ends (e ∷ events) a c mon g most (Passes event rest kept end none on) h f same low =
    part_ends events a c mon g most on h f same (passed_by a.story mon g e (is_raise_of mon g e) (raised_in mon g events) most refl f none same low)
part_ends (e ∷ events) a c mon g most (Raises event rest kept settled end story count some settles on) h f same low =
    let r = settles_rests (keep a e) settled count settles in
    let one = leads_one a e story some in
    let h1 = leads_story a (keep a e) (e ∷ []) h one in
    let m1 = run_moves a.story (keep a e).story (e ∷ []) mon g h one.runs f.monitor f.from_one in
    let f1 = part_there a.story (keep a e).story mon g m1.alike f in
    let m2 = run_moves (keep a e).story settled.story r.calms.took mon g h1 r.calms.leads.runs f1.monitor f1.from_one in
    let alike = alike_join a.story (keep a e).story settled.story m1.alike m2.alike in
    let still : place settled.story mon g ≡ place (keep a e).story mon g + 0 = m2.place ∙ ap (λ n. place (keep a e).story mon g + n) (settling_raises_none mon g r.calms.took r.calms.settling) in
    let moved : place (keep a e).story mon g ≡ place a.story mon g + one_if (is_raise_of mon g e) = (let p = m1.place in omega (arith, p)) in
    part_ends events settled c mon g most on (leads_story (keep a e) settled r.calms.took h1 r.calms.leads) (part_there a.story settled.story mon g alike f)
    (same ∙ sym (alike_length a.story settled.story mon g alike))
    (still_enough most (place a.story mon g) (place (keep a e).story mon g) (place settled.story mon g) (one_if (is_raise_of mon g e)) (raised_in mon g events) low moved still)

-- ---- finishing

more_than : (n p q : ℕ) → n ≤ q → n ≤ p + q
more_than n p q low = omega (arith, low)

pub part_back : (s t : StoryView) (mon g : ℕ) → IsAlike s t → IsFeederOf t mon g → IsFeederOf s mon g
part_back s t mon g a f = record {
  monitor = subst (λ z. IsMonitor z mon) a.settings f.monitor;
  from_one = f.from_one;
  one_of = subst (λ (l : LogSet). g ≤ length (parts_of l.logs mon)) a.logs f.one_of;
}

equal_monitors : (s : StoryView) → IsStory s → (mon : ℕ) → IsMonitor s.settings mon → mon ≤ length s.logs.logs
equal_monitors s h mon m = let a = m.within in let b = h.monitors in omega (arith, a, b)

-- where all raises are made from a settled story on, the run is over
pub raised_over : (b c : KeptStory) (logs : LogSet) → IsStory b.story → CanOnlyChange b.story → logs ≡ b.story.logs → Finishes (all_raises logs) b c → IsOver c.story
raised_over b c logs h idle same finishes =
    let x = finishes_leads (all_raises logs) b c finishes in
    let hc = leads_story b c x.took h x.leads in
    let alike = run_alike b.story c.story x.took x.leads.runs in
    let part : (mon g : ℕ) → IsFeederOf c.story mon g → part_length (setup_of c.story mon) g ≤ place c.story mon g = (λ mon g there.
    let here = part_back b.story c.story mon g alike there in
    let most = part_length (setup_of b.story mon) g in
    equal_most (part_length (setup_of c.story mon) g) most (place c.story mon g) (alike_length b.story c.story mon g alike)
    (part_ends (all_raises logs) b c mon g most finishes h here refl
    (more_than most (place b.story mon g) (raised_in mon g (all_raises logs))
    (subst (λ (l : LogSet). most ≤ raised_in mon g (all_raises l)) (sym same)
    (enough_raises b.story.logs mon g here.monitor.from_one (equal_monitors b.story h mon here.monitor) here.from_one here.one_of)))))
    in
    still_is_over c.story hc (idle_is_still c.story hc (x.idle idle)) (all_ended c.story hc part)

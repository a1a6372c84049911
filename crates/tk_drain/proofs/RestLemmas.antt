-- Settlings: where they lead, how many sweeps they make, and what holds behind them.
use Rattle.std.proofs.Common.{◌≡◌, ℕ, suc, ◌+◌, ◌*◌, ◌<◌, ◌≤◌, true, List, [], ◌∷◌, ◌++◌, length, refl, sym, ap, ◌∙◌, subst, arith}
use Rattle.std.specs.List.{list_all}
use Rattle.std.proofs.lemmas.Bool.{and_from}
use Rattle.std.proofs.lemmas.List.Folds.{list_all-append}
use Rattle.tk_base.specs.Settings.{Setup}
use Rattle.tk_input.specs.declared.event.Event.{Event}
use Rattle.tk_story.specs.Kept.{KeptStory}
use Rattle.tk_story.specs.Story.{IsStory}
use Rattle.tk_world.specs.Events.{CanOnlyChange}
use Rattle.tk_drain.specs.Drive.{BeginsSettling, KeepsFront, Settles, sweep_events, swept}
use Rattle.tk_drain.specs.Drive.Settles.{Rests, Sweeps}
use Rattle.tk_drain.specs.Drive.BeginsSettling.{Within, Beyond}
use Rattle.tk_drain.specs.Moves.{energy_of_all}
use Rattle.tk_drain.specs.Reads.{readings}
use Rattle.tk_drain.specs.Settling.{is_settling}
use Rattle.tk_drain.proofs.SettleLemmas.{energy_most, few_rounds, run_settles, short_by}
use Rattle.tk_drain.proofs.EndLemmas.{idle_is_calm, idle_took_stop}
use Rattle.tk_drain.specs.Resting.{ComesToRest}
use Rattle.tk_story.proofs.StillLemmas.{still_is_quiet}
use Rattle.tk_world.proofs.IdleLemmas.{idle_is_still}
use Rattle.tk_drain.proofs.KeepLemmas.{Leads, leads_join, leads_none, leads_story, took_of}
use Rattle.tk_drain.proofs.SweepLemmas.{idle_can_only_change, sweep_is_settling}

-- ---- checks, taken frames and turns that lead on

pub record Calms (a c : KeptStory) : Type 0 where
  pub took : List Event
  pub leads : Leads a c took
  pub settling : list_all is_settling took ≡ true

pub calms_none : (a : KeptStory) → Calms a a
calms_none a = record { took = []; leads = leads_none a; settling = refl }

pub calms_join : (a b c : KeptStory) → Calms a b → Calms b c → Calms a c
calms_join a b c one two = record {
  took = one.took ++ two.took;
  leads = leads_join a b c one.took two.took one.leads two.leads;
  settling = list_all-append is_settling one.took two.took ∙ and_from (list_all is_settling one.took) (list_all is_settling two.took) one.settling two.settling;
}

pub sweep_calms : (a : KeptStory) → Calms a (swept a)
sweep_calms a =
    let t = took_of a (sweep_events a.story.settings) in
    record { took = t.took; leads = t.leads; settling = t.settling (sweep_is_settling a.story.settings) }

-- ---- a sweep that moves something costs energy

abbrev pub energy_at : KeptStory → ℕ
energy_at a = energy_of_all a.story.settings.monitors (readings a.story)

some_less : (xs : List Event) (a b : ℕ) → (xs ≡ [] → ⊥) → length xs + a ≤ b → a < b
some_less [] a b some is = absurd (some refl)
some_less (x ∷ xs) a b some is = omega (arith, is)

pub sweep_costs : (a : KeptStory) → IsStory a.story → (CanOnlyChange a.story → ⊥) → energy_at (swept a) < energy_at a
sweep_costs a h moves =
    let t = took_of a (sweep_events a.story.settings) in
    let x = run_settles a.story (swept a).story t.took h (t.settling (sweep_is_settling a.story.settings)) t.leads.runs in
    subst (λ (m : ℕ). energy_of_all m (readings (swept a).story) < energy_at a) (sym (ap (λ (z : Setup). z.monitors) x.settings))
    (some_less t.took (energy_of_all a.story.settings.monitors (readings (swept a).story)) (energy_at a) (λ nil. moves (idle_can_only_change a.story (t.none nil))) x.energy)

-- ---- a settling

pub record Rested (a c : KeptStory) : Type 0 where
  pub calms : Calms a c
  pub idle : CanOnlyChange c.story

pub settles_rests : (a c : KeptStory) (n : ℕ) → Settles a c n → Rested a c
settles_rests a c n (Rests kept idle) = record { calms = calms_none a; idle = idle }
settles_rests a c n (Sweeps kept end count moves rest) =
    let r = settles_rests (swept a) c count rest in
    record { calms = calms_join a (swept a) c (sweep_calms a) r.calms; idle = r.idle }

-- the sweeps so far, each of which moved something
pub record Sweeping (old now : KeptStory) (n : ℕ) : Type 0 where
  pub calms : Calms old now
  pub energy : n + energy_at now ≤ energy_at old
  pub settles : (end : KeptStory) (k : ℕ) → Settles now end k → Settles old end (n + k)
  pub begins : (end : KeptStory) → BeginsSettling now end → BeginsSettling old end

one_more : (n k : ℕ) → n + suc k ≡ n + 1 + k
one_more n k = omega arith

costs_more : (n a b c : ℕ) → n + a ≤ b → c < a → n + 1 + c ≤ b
costs_more n a b c x y = omega (arith, x, y)

pub sweeping_on : (old now : KeptStory) (n : ℕ) → IsStory now.story → (CanOnlyChange now.story → ⊥) → Sweeping old now n → Sweeping old (swept now) (n + 1)
sweeping_on old now n h moves so = record {
  calms = calms_join old now (swept now) so.calms (sweep_calms now);
  energy = costs_more n (energy_at now) (energy_at old) (energy_at (swept now)) so.energy (sweep_costs now h moves);
  settles = λ end k s. subst (λ (q : ℕ). Settles old end q) (one_more n k) (so.settles end (suc k) (Sweeps now end k moves s));
  begins = λ end b. so.begins end (Beyond now end b);
}

pub sweeping_rests : (old now : KeptStory) (n : ℕ) → CanOnlyChange now.story → Sweeping old now n → Settles old now (n + 1)
sweeping_rests old now n idle so = so.settles now 1 (Rests now idle)

pub sweeping_few : (old now : KeptStory) (n : ℕ) → IsStory old.story → Sweeping old now n → n ≤ 87 * old.story.settings.monitors
sweeping_few old now n h so = short_by n (energy_at now) (energy_at old) old.story.settings.monitors so.energy (energy_most old.story h)

-- ---- what a settling leaves

pub comes_to_rest : (a c : KeptStory) (n : ℕ) → IsStory a.story → Settles a c n → ComesToRest a.story c.story
comes_to_rest a c n h settles =
    let r = settles_rests a c n settles in
    let hc = leads_story a c r.calms.took h r.calms.leads in
    record {
      still = r.idle;
      quiet = still_is_quiet c.story hc (idle_is_still c.story hc r.idle);
      calm = idle_is_calm c.story hc r.idle;
      stopped = idle_took_stop c.story hc r.idle;
      rounds = few_rounds a.story c.story r.calms.took h r.calms.settling r.calms.leads.runs;
    }

-- a sweep that was cut off
pub sweeping_cut : (old now end : KeptStory) (n : ℕ) → Sweeping old now n → KeepsFront (sweep_events now.story.settings) now end → BeginsSettling old end
sweeping_cut old now end n so f = so.begins end (Within now end f.front f.is_front f.is)

-- the bound is never reached
never_most : (n m : ℕ) → n ≤ 87 * m → 87 * m + 1 ≤ n → ⊥
never_most n m few most = omega (arith, few, most)

pub sweeping_ends : (old now : KeptStory) (n : ℕ) → IsStory old.story → Sweeping old now n → 87 * old.story.settings.monitors + 1 ≤ n → ⊥
sweeping_ends old now n h so most = never_most n old.story.settings.monitors (sweeping_few old now n h so) most

-- The caller's loop over its hub, turn by turn.
use Rattle.std.proofs.Common.{◌≡◌, ◌≤◌, ℕ, List, [], length, true, false, Bool, Option, Some, None, Result, Ok, Err, refl, sym, ap, subst, ◌∙◌, arith}
use Rattle.std.specs.Prelude.{IsErrAnd, unwrap_or, if◌then◌else◌}
use Rattle.std.proofs.lemmas.Bool.{false≢true}
use Rattle.std.specs.List.{concat}
use Rattle.tk_base.specs.History.{IsFront}
use Rattle.tk_input.specs.Sink.{Grows, GrowsByFront}
use Rattle.tk_journal.specs.Publishing.{publications}
use Rattle.tk_journal.specs.Readings.{is_stopped}
use Rattle.tk_ledger.specs.Text.{lines_of}
use Rattle.tk_hub.specs.Hub.{Cuts, HubView, IsClosed, IsFinished, IsHub, IsOnCourse, Turns, Writes as WritesHub}
use Rattle.tk_coord.specs.Coordinator.{CoordinatorView}
use Rattle.tk_end.proofs.HearingLemmas.{front_refl, front_trans}
use Rattle.tk_hub.specs.Lines.{text_between, text_written, written_in}
use Rattle.tk_hub.specs.Turn.{course_of, goes_on, halted_of, is_open}
use Rattle.tk_hub.specs.declared.course.Course.{Course}
use Rattle.tk_hub.specs.declared.course.Course.TheVariants as cs
use Rattle.tk_hub.specs.declared.course.HubTurn.{HubTurn}
use Rattle.tk_hub.specs.declared.course.HubTurn.TheVariants as t
use Rattle.tk_hub.proofs.LinesLemmas.{lines_add, lines_within, text_all, text_none, text_stays}
use Rattle.tk_wire.specs.Meanings.{Counts}
use Rattle.tk_wire.specs.Net.{NetState, listened}
use Rattle.tk_wire.specs.declared.net.NetFault.{NetFault}
use Rattle.tk_wire.specs.declared.net.NetFault.TheVariants as fault
use Rattle.tk_live.specs.Hosting.{Closes, GoesRound, HasGone, Hosts, IsGoing, IsOfNet, IsRefusedCourse, TellsParting, Writes, all_told}
use Rattle.tk_live.specs.Parting.{halts_of, is_done_of, left_on, of_turn}
use Rattle.tk_live.specs.declared.parting.Parting.{Parting}
use Rattle.tk_live.specs.declared.parting.Parting.TheVariants as p
use Rattle.tk_live.proofs.LineLemmas.{cut_front, no_lines, written_front}
use Rattle.tk_ledger.proofs.SinkLemmas.{grows_none}

-- ---- the net

pub gone_none : (net : NetState) → HasGone net net
gone_none net = record { listens = λ l. l; taken = refl }

pub gone_on : (a b c : NetState) → HasGone a b → HasGone b c → HasGone a c
gone_on a b c first second = record { listens = λ l. second.listens (first.listens l); taken = second.taken ∙ first.taken }

pub gone_listened : {A : Type 0} (result : Result A NetFault) (a b : NetState) → b ≡ listened result a → HasGone a b
gone_listened (Ok x) a b is = record { listens = λ l. ap (λ n. n.listens) is; taken = ap (λ n. n.taken) is }
gone_listened (Err fault.Failed) a b is = record { listens = λ l. ap (λ n. n.listens) is ∙ l; taken = ap (λ n. n.taken) is }
gone_listened (Err fault.NoMemory) a b is = record { listens = λ l. ap (λ n. n.listens) is ∙ l; taken = ap (λ n. n.taken) is }

-- ---- the loop

-- nothing is written of a journal that publishes nothing
text_zero : {W : Type 0} (names : List (List ℕ)) (hub : HubView W) → publications hub.coordinator.journal ≡ [] → text_written names hub.coordinator.journal hub.lines ≡ []
text_zero names hub none =
    let j = hub.coordinator.journal in
    let zero_ : written_in j hub.lines ≡ 0 = omega (arith, lines_within j hub.lines.passed, ap length none) in
    ap (text_between names j 0) zero_ ∙ text_none names j 0

pub goes_first : {W : Type 0} (names : List (List ℕ)) (hub : HubView W) (net : NetState) (before : Option (List ℕ)) → hub.course ≡ cs.Open → IsHub hub
    → publications hub.coordinator.journal ≡ [] → is_stopped hub.coordinator.journal ≡ false → IsGoing names hub hub net net before before
goes_first names hub net before course kept none running = record {
  course = course;
  kept = kept;
  settings = refl;
  grows = front_refl hub.coordinator.journal;
  unfinished = λ done. false≢true (sym running ∙ done.stopped);
  gone = gone_none net;
  written = subst (Grows before before) (sym (text_zero names hub none)) (grows_none before);
  all = text_zero names hub none ∙ sym (no_lines names hub.coordinator.journal none);
}

-- connections are admitted, and the net goes on
pub goes_on_admitted : {W : Type 0} (names : List (List ℕ)) (old hub hub' : HubView W) (net net1 net2 : NetState) (before now : Option (List ℕ))
    → IsGoing names old hub net net1 before now → hub' ≡ record hub { held = hub'.held } → IsHub hub' → HasGone net1 net2 → IsGoing names old hub' net net2 before now
goes_on_admitted names old hub hub' net net1 net2 before now g rest kept gone = record {
  course = ap (λ h. h.course) rest ∙ g.course;
  kept = kept;
  settings = ap (λ h. h.coordinator.settings) rest ∙ g.settings;
  grows = subst (λ h. IsFront old.coordinator.journal h.coordinator.journal) (sym rest) g.grows;
  unfinished = λ done. g.unfinished (subst IsFinished rest done);
  gone = gone_on net net1 net2 g.gone gone;
  written = subst (λ h. Grows before now (text_written names h.coordinator.journal h.lines)) (sym rest) g.written;
  all = subst (λ h. text_written names h.coordinator.journal h.lines ≡ all_told names h) (sym rest) g.all;
}

-- the loop ends between two turns
pub hosts_between : {W : Type 0} (parting : Parting) (names : List (List ℕ)) (old hub : HubView W) (net net1 net2 : NetState) (before now : Option (List ℕ))
    → IsGoing names old hub net net1 before now → HasGone net1 net2 → IsOfNet parting → Hosts parting names old hub net net2 before now
hosts_between p.NetFailed names old hub net net1 net2 before now g gone is = record {
  settings = g.settings;
  grows = g.grows;
  kept = g.kept;
  taken = (gone_on net net1 net2 g.gone gone).taken;
  writes = subst (Grows before now) g.all g.written;
  tells = tt;
  unrefused = λ never is. subst IsRefusedCourse g.course is;
}
hosts_between p.NoMemory names old hub net net1 net2 before now g gone is = record {
  settings = g.settings;
  grows = g.grows;
  kept = g.kept;
  taken = (gone_on net net1 net2 g.gone gone).taken;
  writes = written_front names hub.coordinator.journal hub.lines before now g.written;
  tells = tt;
  unrefused = λ never is. subst IsRefusedCourse g.course is;
}
hosts_between p.Finished names old hub net net1 net2 before now g gone is = absurd is
hosts_between p.Alarmed names old hub net net1 net2 before now g gone is = absurd is
hosts_between p.Failed names old hub net net1 net2 before now g gone is = absurd is
hosts_between p.Refused names old hub net net1 net2 before now g gone is = absurd is
hosts_between p.WriteFailed names old hub net net1 net2 before now g gone is = absurd is

-- a round that a call ended so
pub goes_parted : {W : Type 0} (parting : Parting) (result : Result Bool Parting) (names : List (List ℕ)) (hub hub' : HubView W) (net net' : NetState) (now next : Option (List ℕ)) → IsErrAnd result (λ q. q ≡ parting)
    → GoesRound (Err parting) names hub hub' net net' now next → GoesRound result names hub hub' net net' now next
goes_parted parting (Ok idle) names hub hub' net net' now next is goes = absurd is
goes_parted parting (Err q) names hub hub' net net' now next is goes = λ old first before going.
    subst (λ x. Hosts x names old hub' first net' before next) (sym is) (goes old first before going)

-- an open hub is not on another course
pub is_not : (course other : Course) → (cs.Open ≡ other → ⊥) → course ≡ cs.Open → course ≡ other → ⊥
is_not course other differs open_ is = differs (sym open_ ∙ is)

pub hosts_alarmed : {W : Type 0} (names : List (List ℕ)) (old hub : HubView W) (net net1 : NetState) (before now : Option (List ℕ))
    → IsGoing names old hub net net1 before now → Hosts p.Alarmed names old hub net net1 before now
hosts_alarmed names old hub net net1 before now g = record {
  settings = g.settings;
  grows = g.grows;
  kept = g.kept;
  taken = g.gone.taken;
  writes = subst (Grows before now) g.all g.written;
  tells = tt;
  unrefused = λ never is. subst IsRefusedCourse g.course is;
}

-- ---- a turn

-- what a turn of a hub says of its lines
pub record TurnsLines {W : Type 0} (turn : HubTurn) (names : List (List ℕ)) (hub hub' : HubView W) (now next : Option (List ℕ)) : Type 0 where
  pub lines : WritesHub turn names hub hub' now next
  pub cut : Cuts turn names hub hub' now next
  pub forward : hub.lines.passed ≤ hub'.lines.passed
  pub grows : IsFront hub.coordinator.journal hub'.coordinator.journal
  pub settings : hub'.coordinator.settings ≡ hub.coordinator.settings
  pub kept : IsHub hub'
  pub course : hub'.course ≡ course_of turn
  pub finished : turn ≡ t.Finished → IsFinished hub'
  pub counts : W → Counts
  pub goes : Turns counts turn hub hub'

module _ {W : Type 0} (names : List (List ℕ)) (old hub hub' : HubView W) (net net1 : NetState) (before now next : Option (List ℕ)) (g : IsGoing names old hub net net1 before now) where
  -- what was written before the turn, in words of the journal behind it
  stayed : IsFront hub.coordinator.journal hub'.coordinator.journal → Grows before now (text_written names hub'.coordinator.journal hub.lines)
  stayed front = subst (Grows before now) (sym (text_stays names hub.coordinator.journal hub'.coordinator.journal hub.lines front g.kept.lines)) g.written

  wrote : (turn : HubTurn) → TurnsLines turn names hub hub' now next → (turn ≡ t.WriteFailed → ⊥) → Grows before next (text_written names hub'.coordinator.journal hub'.lines)
  wrote turn h fine = lines_add names hub'.coordinator.journal hub.lines hub'.lines before now next h.forward (stayed h.grows) (h.lines fine)

  pub goes_on_turned : (turn : HubTurn) → TurnsLines turn names hub hub' now next → goes_on turn ≡ true → (turn ≡ t.WriteFailed → ⊥) → course_of turn ≡ cs.Open → IsGoing names old hub' net net1 before next
  goes_on_turned turn h going fine open_ = record {
    course = h.course ∙ open_;
    kept = h.kept;
    settings = h.settings ∙ g.settings;
    grows = front_trans old.coordinator.journal hub.coordinator.journal hub'.coordinator.journal g.grows h.grows;
    unfinished = h.goes.exchanges.unfinished going;
    gone = g.gone;
    written = wrote turn h fine;
    all = text_all names hub'.coordinator.journal hub'.lines (h.goes.exchanges.written going);
  }

  pub goes_turned : (turn : HubTurn) → TurnsLines turn names hub hub' now next → of_turn turn ≡ None → IsGoing names old hub' net net1 before next
  goes_turned t.Quiet h none = goes_on_turned t.Quiet h refl (λ e. absurd (cc)) refl
  goes_turned t.More h none = goes_on_turned t.More h refl (λ e. absurd (cc)) refl
  goes_turned t.Finished h none = absurd (cc)
  goes_turned t.Failed h none = absurd (cc)
  goes_turned (t.Refused mon why) h none = absurd (cc)
  goes_turned (t.Bad mon fault) h none = absurd (cc)
  goes_turned t.WriteFailed h none = absurd (cc)
  goes_turned t.NoMemory h none = absurd (cc)

  front : (turn : HubTurn) → TurnsLines turn names hub hub' now next → (turn ≡ t.WriteFailed → ⊥) → GrowsByFront before next (all_told names hub')
  front turn h fine = written_front names hub'.coordinator.journal hub'.lines before next (wrote turn h fine)

  hosts : (turn : HubTurn) (parting : Parting) → TurnsLines turn names hub hub' now next → Writes parting names hub' before next → TellsParting parting hub' → ((parting ≡ p.Refused → ⊥) → IsRefusedCourse (course_of turn) → ⊥)
      → Hosts parting names old hub' net net1 before next
  hosts turn parting h writes tells unrefused = record {
    settings = h.settings ∙ g.settings;
    grows = front_trans old.coordinator.journal hub.coordinator.journal hub'.coordinator.journal g.grows h.grows;
    kept = h.kept;
    taken = g.gone.taken;
    writes = writes;
    tells = tells;
    unrefused = λ never is. unrefused never (subst IsRefusedCourse h.course is);
  }

  refused : (course : Course) → IsRefusedCourse course → hub'.course ≡ course → IsRefusedCourse hub'.course
  refused course is at = subst IsRefusedCourse (sym at) is

  ended : (turn : HubTurn) (parting : Parting) → TurnsLines turn names hub hub' now next → of_turn turn ≡ Some parting → Hosts (unwrap_or (of_turn turn) parting) names old hub' net net1 before next
  ended t.Quiet parting h is = absurd (cc)
  ended t.More parting h is = absurd (cc)
  ended t.Finished parting h is =
      hosts t.Finished p.Finished h (subst (Grows before next) (text_all names hub'.coordinator.journal hub'.lines (h.finished refl).written) (wrote t.Finished h (λ e. absurd (cc)))) (h.finished refl) (λ never is. is)
  ended t.Failed parting h is = hosts t.Failed p.Failed h (front t.Failed h (λ e. absurd (cc))) tt (λ never is. is)
  ended (t.Refused mon why) parting h is = hosts (t.Refused mon why) p.Refused h (front (t.Refused mon why) h (λ e. absurd (cc))) (refused (cs.Refused mon why) tt h.course) (λ never is. never refl)
  ended (t.Bad mon fault) parting h is = hosts (t.Bad mon fault) p.Refused h (front (t.Bad mon fault) h (λ e. absurd (cc))) (refused (cs.Bad mon fault) tt h.course) (λ never is. never refl)
  ended t.WriteFailed parting h is =
      hosts t.WriteFailed p.WriteFailed h (cut_front names hub'.coordinator.journal hub.lines hub'.lines before now next h.forward (stayed h.grows) (h.cut refl)) h.course (λ never is. is)
  ended t.NoMemory parting h is = hosts t.NoMemory p.NoMemory h (front t.NoMemory h (λ e. absurd (cc))) tt (λ never is. is)

  pub hosts_turned : (turn : HubTurn) (parting : Parting) → TurnsLines turn names hub hub' now next → of_turn turn ≡ Some parting → Hosts parting names old hub' net net1 before next
  hosts_turned turn parting h is = subst (λ q. Hosts q names old hub' net net1 before next) (ap (λ o. unwrap_or o parting) is) (ended turn parting h is)

-- ---- the loop is left

left_course : (course : Course) → IsRefusedCourse course → IsRefusedCourse (halted_of course)
left_course (cs.Refused mon why) is = tt
left_course (cs.Bad mon fault) is = tt
left_course cs.Open is = absurd is
left_course cs.Halted is = absurd is
left_course cs.Failed is = absurd is
left_course cs.WriteFailed is = absurd is

halted_refused : (course left : Course) → left ≡ halted_of course → IsRefusedCourse course → IsRefusedCourse left
halted_refused course left at is = subst IsRefusedCourse (sym at) (left_course course is)

halted_back : (course : Course) → IsRefusedCourse (halted_of course) → IsRefusedCourse course
halted_back (cs.Refused mon why) is = tt
halted_back (cs.Bad mon fault) is = tt
halted_back cs.Open is = absurd is
halted_back cs.Halted is = absurd is
halted_back cs.Failed is = absurd is
halted_back cs.WriteFailed is = absurd is

left_back : (halts : Bool) (course : Course) → IsRefusedCourse (if halts then halted_of course else course) → IsRefusedCourse course
left_back true course is = halted_back course is
left_back false course is = is

halted_shut : (course : Course) → is_open (halted_of course) ≡ false
halted_shut cs.Open = refl
halted_shut cs.Halted = refl
halted_shut cs.Failed = refl
halted_shut (cs.Refused mon why) = refl
halted_shut (cs.Bad mon fault) = refl
halted_shut cs.WriteFailed = refl

-- unless the run is done, a hub that is left goes on no more
left_shut : (parting : Parting) (course left : Course) → left ≡ left_on parting course → (parting ≡ p.WriteFailed → course ≡ cs.WriteFailed) → (parting ≡ p.Finished → ⊥) → is_open left ≡ false
left_shut p.Finished course left at unwritten never = absurd (never refl)
left_shut p.WriteFailed course left at unwritten never = ap is_open (at ∙ unwritten refl)
left_shut p.Alarmed course left at unwritten never = ap is_open at ∙ halted_shut course
left_shut p.Failed course left at unwritten never = ap is_open at ∙ halted_shut course
left_shut p.Refused course left at unwritten never = ap is_open at ∙ halted_shut course
left_shut p.NetFailed course left at unwritten never = ap is_open at ∙ halted_shut course
left_shut p.NoMemory course left at unwritten never = ap is_open at ∙ halted_shut course

closed_at : {W : Type 0} (hub : HubView W) (course : Course) → is_open course ≡ false → IsOnCourse hub.coordinator hub.links hub.held course → IsClosed hub.links hub.held
closed_at hub cs.Open shut on = absurd (false≢true (sym shut))
closed_at hub cs.Halted shut on = on
closed_at hub cs.Failed shut on = on.0
closed_at hub (cs.Refused mon why) shut on = on.0
closed_at hub (cs.Bad mon fault) shut on = on.0
closed_at hub cs.WriteFailed shut on = on

-- what was written does not depend on more of the hub than its coordinator
writes_left : {W : Type 0} (parting : Parting) (names : List (List ℕ)) (hub hub' : HubView W) (before now : Option (List ℕ)) → hub'.coordinator ≡ hub.coordinator → Writes parting names hub before now → Writes parting names hub' before now
writes_left p.Finished names hub hub' before now is w = subst (λ (c : CoordinatorView). Grows before now (concat (lines_of names c.journal))) (sym is) w
writes_left p.Alarmed names hub hub' before now is w = subst (λ (c : CoordinatorView). Grows before now (concat (lines_of names c.journal))) (sym is) w
writes_left p.NetFailed names hub hub' before now is w = subst (λ (c : CoordinatorView). Grows before now (concat (lines_of names c.journal))) (sym is) w
writes_left p.Failed names hub hub' before now is w = subst (λ (c : CoordinatorView). GrowsByFront before now (concat (lines_of names c.journal))) (sym is) w
writes_left p.Refused names hub hub' before now is w = subst (λ (c : CoordinatorView). GrowsByFront before now (concat (lines_of names c.journal))) (sym is) w
writes_left p.WriteFailed names hub hub' before now is w = subst (λ (c : CoordinatorView). GrowsByFront before now (concat (lines_of names c.journal))) (sym is) w
writes_left p.NoMemory names hub hub' before now is w = subst (λ (c : CoordinatorView). GrowsByFront before now (concat (lines_of names c.journal))) (sym is) w

tells_left : {W : Type 0} (parting : Parting) (hub hub' : HubView W) (net net' : NetState) → Closes parting hub hub' net net' → TellsParting parting hub → TellsParting parting hub'
tells_left p.Finished hub hub' net net' c tells = subst IsFinished (sym (c.finished refl)) tells
tells_left p.Refused hub hub' net net' c tells = halted_refused hub.course hub'.course c.course tells
tells_left p.WriteFailed hub hub' net net' c tells = c.course ∙ tells
tells_left p.Alarmed hub hub' net net' c tells = tt
tells_left p.Failed hub hub' net net' c tells = tt
tells_left p.NetFailed hub hub' net net' c tells = tt
tells_left p.NoMemory hub hub' net net' c tells = tt

module _ {W : Type 0} (parting : Parting) (names : List (List ℕ)) (old hub hub' : HubView W) (net net1 net2 : NetState) (before now : Option (List ℕ)) (h : Hosts parting names old hub net net1 before now) (c : Closes parting hub hub' net1 net2) where
  -- what it has done stays
  pub hosts_left : Hosts parting names old hub' net net2 before now
  hosts_left = record {
    settings = ap (λ (k : CoordinatorView). k.settings) c.coordinator ∙ h.settings;
    grows = subst (λ (k : CoordinatorView). IsFront old.coordinator.journal k.journal) (sym c.coordinator) h.grows;
    kept = c.kept;
    taken = c.taken ∙ h.taken;
    writes = writes_left parting names hub hub' before now c.coordinator h.writes;
    tells = tells_left parting hub hub' net1 net2 c h.tells;
    unrefused = λ never is. h.unrefused never (left_back (halts_of parting) hub.course (subst IsRefusedCourse c.course is));
  }

  -- and unless the run is done all its wires are shut, and nobody is held
  pub closed_left : (parting ≡ p.Finished → ⊥) → IsClosed hub'.links hub'.held
  closed_left never =
      let shut = left_shut parting hub.course hub'.course c.course (λ is. subst (λ q. TellsParting q hub) is h.tells) never in
      closed_at hub' hub'.course shut c.kept.course

-- a run that is done was finished
pub done_is : (parting : Parting) → is_done_of parting ≡ true → parting ≡ p.Finished
done_is p.Finished is = refl
done_is p.Alarmed is = absurd (cc)
done_is p.Failed is = absurd (cc)
done_is p.Refused is = absurd (cc)
done_is p.WriteFailed is = absurd (cc)
done_is p.NetFailed is = absurd (cc)
done_is p.NoMemory is = absurd (cc)

pub hosts_same : {W : Type 0} (parting : Parting) (names : List (List ℕ)) (old new : HubView W) (net a b : NetState) (before x y : Option (List ℕ))
    → Hosts parting names old new net a before x → b ≡ a → y ≡ x → Hosts parting names old new net b before y
hosts_same parting names old new net a b before x y h one two =
    subst (λ n. Hosts parting names old new net n before y) (sym one) (subst (λ o. Hosts parting names old new net a before o) (sym two) h)

-- What the coordinator takes and sends.
use Rattle.std.proofs.Common.{◌≡◌, ◌<◌, ◌≤◌, ℕ, zero, suc, ◌+◌, ◌==◌, List, [], ◌∷◌, ◌++◌, length, take, Option, Some, None, Err, slice_get, Bool, true, false, refl, sym, ap, ◌∙◌, subst, arith, eq-eqb, inl, inr}
use Rattle.std.specs.Prelude.{ℤ, map, if◌then◌else◌}
use Rattle.std.specs.List.{cons_option, enumerate_from}
use Rattle.std.specs.Option.{option_map}
use Rattle.std.proofs.lemmas.List.{take_at}
use Rattle.tk_base.specs.History.{IsFront}
use Rattle.tk_base.specs.Settings.{Setup}
use Rattle.tk_coord.specs.Coordinator.{IsJournal, IsRefusal}
use Rattle.tk_end.specs.Actor.{AnswersTake, CanBeSent}
use Rattle.tk_end.specs.declared.actor.Declined.TheVariants.{NoMemory}
use Rattle.tk_frames.specs.Carried.{tally}
use Rattle.tk_frames.specs.Encoding.{IsBadHello}
use Rattle.tk_frames.specs.Size.{IsShort}
use Rattle.tk_frames.specs.declared.frame.Frame.{Frame}
use Rattle.tk_frames.specs.declared.frame.Frame.TheVariants as f
use Rattle.tk_journal.proofs.HeardLemmas.{no_input}
use Rattle.tk_journal.proofs.Appends.{frames_from-append, frames_to-append}
use Rattle.tk_journal.proofs.SentLemmas.{is_other, only_three_kinds}
use Rattle.tk_journal.proofs.SoundLemmas.{legal_firm}
use Rattle.tk_journal.proofs.WholeLemmas.{turn_is}
use Rattle.tk_journal.specs.Laws.{AreSentShort}
use Rattle.tk_journal.specs.Legal.{Opening, inputs_of, opened, turn_of}
use Rattle.tk_journal.specs.Links.{frames_from, frames_to}
use Rattle.tk_journal.specs.Refusal.{Known, Shown, bad_border, known_by, not_broken, or_else, refusal_of, refusal_of_answer, refusal_of_border, refusal_of_cut, refusal_of_kind, refusal_of_report, refusal_of_values, shown_by, too_great}
use Rattle.tk_journal.specs.declared.noted.Noted.{Noted}
use Rattle.tk_journal.specs.declared.noted.Noted.TheVariants as n
use Rattle.tk_journal.specs.declared.refusal.CoordRefusal.{CoordRefusal}
use Rattle.tk_journal.specs.declared.refusal.CoordRefusal.TheVariants as r

-- ---- an opening

sent_only : (members : List ℕ) (rows : List (ℕ × List (ℕ × ℤ))) → inputs_of (map (λ p. n.Sent (record { 0 = p.0 }) (f.Assign 1 members p.1)) rows) ≡ []
sent_only members [] = refl
sent_only members (p ∷ rows) = sent_only members rows

-- it has Assigns alone
pub opened_inputs : (o : Opening) → inputs_of (opened o) ≡ []
opened_inputs o = sent_only o.members (enumerate_from 1 o.factors)

-- ---- what was got and what was sent, once a frame is taken

got_first : (mon : ℕ) (frame : Frame) (rest : List Noted) → frames_from mon rest ≡ [] → frames_from mon (n.Got (record { 0 = mon }) frame ∷ rest) ≡ frame ∷ []
got_first mon frame rest none = rw (eq-eqb mon mon refl, none) refl

pub heard_after : (s : Setup) (j : List Noted) (mon : ℕ) (frame : Frame) → 0 < mon → mon ≤ s.monitors → refusal_of s j mon frame ≡ None → frames_from mon (j ++ turn_of s j (n.Got (record { 0 = mon }) frame)) ≡ frames_from mon j ++ frame ∷ []
heard_after s j mon frame some within none =
    let t = turn_is s j (n.Got (record { 0 = mon }) frame) (omega arith, within, none) in
    frames_from-append mon j (turn_of s j (n.Got (record { 0 = mon }) frame))
    ∙ ap (λ xs. frames_from mon j ++ xs) (ap (frames_from mon) t.is ∙ got_first mon frame t.rest (no_input mon t.rest t.none))

pub said_after : (j turn : List Noted) (mon : ℕ) → IsFront (frames_to mon j) (frames_to mon (j ++ turn))
said_after j turn mon = record { is = sym (ap (take (length (frames_to mon j))) (frames_to-append mon j turn) ∙ take_at (frames_to mon j) (frames_to mon turn) (length (frames_to mon j)) refl) }

-- ---- no test refuses for want of memory

unless : (b : Bool) (o : Option CoordRefusal) (why : CoordRefusal) → (o ≡ Some r.NoMemory → ⊥) → (why ≡ r.NoMemory → ⊥) → (if b then Some why else o) ≡ Some r.NoMemory → ⊥
unless true o why rest other is = other (cc)
unless false o why rest other is = rest is

one_of : (b : Bool) (o p : Option CoordRefusal) → (o ≡ Some r.NoMemory → ⊥) → (p ≡ Some r.NoMemory → ⊥) → (if b then o else p) ≡ Some r.NoMemory → ⊥
one_of true o p left right is = left is
one_of false o p left right is = right is

nothing : (o : Option CoordRefusal) → o ≡ None → o ≡ Some r.NoMemory → ⊥
nothing o none is = absurd (cc)

or_never : (o p : Option CoordRefusal) → (o ≡ Some r.NoMemory → ⊥) → (p ≡ Some r.NoMemory → ⊥) → or_else o p ≡ Some r.NoMemory → ⊥
or_never None p left right is = right is
or_never (Some why) p left right is = left is

great_never : (o : Option (ℕ × ℤ)) → option_map (λ p. r.TooGreatValue (record { 0 = p.0 })) o ≡ Some r.NoMemory → ⊥
great_never None is = absurd (cc)
great_never (Some p) is = absurd (cc)

broken_never : (o : Option ℕ) → option_map (λ q. r.NotBroken (record { 0 = q })) o ≡ Some r.NoMemory → ⊥
broken_never None is = absurd (cc)
broken_never (Some q) is = absurd (cc)

bad_never : (border least : ℤ) → bad_border border least ≡ Some r.NoMemory → ⊥
bad_never border least is = unless _ None (r.BadBorder border least) (nothing None refl) (λ e. absurd (cc)) is

border_never : (known : Known) (values : List (ℕ × ℤ)) (border : ℤ) → refusal_of_border known values border ≡ Some r.NoMemory → ⊥
border_never known values border is = bad_never border _ is

report_never : (known : Known) (border : ℤ) (failed : List ℕ) (values : List (ℕ × ℤ)) → refusal_of_report known border failed values ≡ Some r.NoMemory → ⊥
report_never known border failed values is =
    unless _ _ r.WrongObjects (or_never (too_great values) _ (great_never _) (or_never (not_broken known values failed) _ (broken_never _) (border_never known values border))) (λ e. absurd (cc)) is

values_never : (known : Known) (asked : List ℕ) (border : ℤ) (values : List (ℕ × ℤ)) → refusal_of_values known asked border values ≡ Some r.NoMemory → ⊥
values_never known asked border values is = unless _ _ r.WrongObjects (or_never (too_great values) _ (great_never _) (border_never known values border)) (λ e. absurd (cc)) is

answer_never : (shown : Shown) (seq : ℕ) (content : Option CoordRefusal) → (content ≡ Some r.NoMemory → ⊥) → refusal_of_answer shown seq content ≡ Some r.NoMemory → ⊥
answer_never shown seq content never is =
    unless _ _ (r.AheadOfSequence shown.at seq) (one_of _ None _ (nothing None refl) (unless shown.reported content (r.AfterReport seq) never (λ e. absurd (cc)))) (λ e. absurd (cc)) is

kind_never : (shown : Shown) (known : Known) (frame : Frame) → refusal_of_kind shown known frame ≡ Some r.NoMemory → ⊥
kind_never shown known (f.Hello run version mon) is = absurd (cc)
kind_never shown known (f.Report seq border failed values) is = answer_never shown seq (refusal_of_report known border failed values) (report_never known border failed values) is
kind_never shown known (f.Collect round asked) is = absurd (cc)
kind_never shown known (f.Values round seq border values) is =
    unless _ _ (r.AheadOfSequence shown.at seq) (unless _ _ (r.NotAsked round) (unless _ _ (r.BehindSequence shown.at seq) (values_never known _ border values) (λ e. absurd (cc))) (λ e. absurd (cc))) (λ e. absurd (cc)) is
kind_never shown known (f.Assign seq members changes) is = absurd (cc)
kind_never shown known (f.Settled seq last places) is = answer_never shown seq (refusal_of_cut shown.progress last places) (λ e. one_of _ None (Some r.BadCut) (nothing None refl) (λ q. absurd (cc)) e) is
kind_never shown known f.Stop is = absurd (cc)

pub never_memory : (s : Setup) (j : List Noted) (mon : ℕ) (frame : Frame) → refusal_of s j mon frame ≡ Some r.NoMemory → ⊥
unfolding refusal_of
never_memory s j mon frame is = unless _ _ r.AfterStop (kind_never (shown_by mon j) (known_by s mon j) frame) (λ e. absurd (cc)) is

-- a frame that comes back for want of memory alone
pub wants_memory : (first : Option CoordRefusal) (why : CoordRefusal) (frame back : Frame) → IsRefusal r.NoMemory first why → (first ≡ Some r.NoMemory → ⊥) → why ≡ r.NoMemory → back ≡ frame → AnswersTake first frame (Err (NoMemory back))
wants_memory first why frame back (inl p) never is same = subst (λ o. AnswersTake o frame (Err (NoMemory back))) (sym p.1) (ap NoMemory same)
wants_memory first why frame back (inr refused) never is same = absurd (never (refused ∙ ap Some is))

-- ---- what is sent fits

short_behind : (b : Bool) (xs : List Frame) (i : ℕ) (g frame : Frame) → IsShort g → ((k : ℕ) → slice_get xs k ≡ Some frame → IsShort frame) → slice_get (cons_option (if b then Some g else None) xs) i ≡ Some frame → IsShort frame
short_behind true xs zero g frame short rest at = subst IsShort (cc) short
short_behind true xs (suc i) g frame short rest at = rest i at
short_behind false xs i g frame short rest at = rest i at

short_at : (j : List Noted) (mon i : ℕ) (frame : Frame) → AreSentShort j → slice_get (frames_to mon j) i ≡ Some frame → IsShort frame
short_at [] mon i frame short at = absurd (cc)
short_at (n.Got from g ∷ j) mon i frame short at = short_at j mon i frame short at
short_at (n.Published p ∷ j) mon i frame short at = short_at j mon i frame short at
short_at (n.Tuned k e ∷ j) mon i frame short at = short_at j mon i frame short at
short_at (n.Sent to g ∷ j) mon i frame short at = short_behind (to.0 == mon) (frames_to mon j) i g frame short.0 (λ k. short_at j mon k frame short.1) at

flag_none : (b : Bool) (rest : ℕ) → (if b then 1 else 0) + rest ≡ 0 → b ≡ false
flag_none true rest none = absurd (omega (arith, none))
flag_none false rest none = refl

not_other : (frames : List Frame) (i : ℕ) (frame : Frame) → tally is_other frames ≡ 0 → slice_get frames i ≡ Some frame → is_other frame ≡ false
not_other [] i frame none at = absurd (cc)
not_other (g ∷ frames) zero frame none at = subst (λ x. is_other x ≡ false) (cc) (flag_none (is_other g) (tally is_other frames) none)
not_other (g ∷ frames) (suc i) frame none at = not_other frames i frame (omega (arith, none)) at

no_hello : (frame : Frame) → is_other frame ≡ false → IsBadHello frame → ⊥
no_hello (f.Hello run version mon) is bad = absurd (cc)
no_hello (f.Report seq border failed values) is bad = bad
no_hello (f.Collect round asked) is bad = bad
no_hello (f.Values round seq border values) is bad = bad
no_hello (f.Assign seq members changes) is bad = bad
no_hello (f.Settled seq last places) is bad = bad
no_hello f.Stop is bad = bad

pub can_be_sent : (s : Setup) (j : List Noted) (mon i : ℕ) (frame : Frame) → IsJournal s j → slice_get (frames_to mon j) i ≡ Some frame → CanBeSent frame
can_be_sent s j mon i frame journal at = record {
  short = short_at j mon i frame (legal_firm journal.opening j journal.set_up journal.legal).short at;
  no_bad_hello = no_hello frame (not_other (frames_to mon j) i frame (only_three_kinds journal.opening j mon journal.set_up journal.legal) at);
}

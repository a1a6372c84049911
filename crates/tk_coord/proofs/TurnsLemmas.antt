-- The turns that a coordinator keeps are those of its journal.
use Rattle.std.proofs.Common.{◌≡◌, ℕ, suc, ◌+◌, ◌&&◌, Bool, true, false, not, pos, List, [], ◌∷◌, ◌++◌, length, Option, Some, None, refl, sym, ap, ap₂, ◌∙◌, arith}
use Rattle.std.specs.Prelude.{is_some, slice_get}
use Rattle.std.specs.List.{list_all, range_with_len}
use Rattle.tk_base.specs.Settings.{Setup}
use Rattle.tk_base.specs.declared.ids.Mon.{Mon}
use Rattle.tk_frames.specs.declared.frame.Frame.{Frame}
use Rattle.tk_frames.specs.declared.frame.Frame.TheVariants as f
use Rattle.tk_rows.specs.Factors.{Grid}
use Rattle.tk_journal.specs.Kinds.{turned, turns_of}
use Rattle.tk_journal.specs.Laws.{IsMonitor}
use Rattle.tk_journal.specs.Legal.{opened, turn_of}
use Rattle.tk_journal.specs.Readings.{answer_of, is_calm, is_open, monitors, settled_in, settled_of}
use Rattle.tk_journal.specs.Refusal.{refusal_of, retune_refusal_of}
use Rattle.tk_journal.specs.declared.noted.Noted.{Noted}
use Rattle.tk_journal.specs.declared.noted.Noted.TheVariants as n
use Rattle.tk_journal.specs.declared.turn.Turn.{Turn}
use Rattle.tk_journal.specs.declared.turn.TurnKind.{TurnKind}
use Rattle.tk_journal.specs.declared.turn.TurnKind.TheVariants.{Tune}
use Rattle.tk_journal.proofs.KindLemmas.{none_opened, turns_go}
use Rattle.tk_journal.proofs.StandLemmas.{open_not_calm}
use Rattle.tk_coord.specs.Coordinator.{Begins}
use Rattle.tk_coord.specs.Keeping.{has_settled, is_settled_in}
use Rattle.tk_coord.specs.State.{ArePeers, kind_in, peer_at}
use Rattle.tk_coord.specs.Steps.{IsCounted}
use Rattle.tk_coord.specs.declared.peer.Peer.{Peer}

-- at the start there is no turn
pub begun_turns : (s : Setup) (members : List ℕ) (table : Grid) (j : List Noted) → Begins s members table j → [] ≡ turns_of s j
begun_turns s members table j b =
    sym (ap (turns_of s) b.is ∙ ap (λ (q : Setup). turns_of q (opened b.opening)) (sym b.settings) ∙ none_opened b.opening)

-- a turn, by what it says
abbrev turn_with : TurnKind → Bool → Bool → Bool → Turn
turn_with kind fails widens calm = record { kind = kind; fails = fails; widens = widens; calm = calm }

turn_by : {kind k : TurnKind} {fails g widens w calm c : Bool} → kind ≡ k → fails ≡ g → widens ≡ w → calm ≡ c → turn_with kind fails widens calm ≡ turn_with k g w c
turn_by a b d e = cc

-- the turns with that of a taken frame
pub turns_taken : (s : Setup) (j after : List Noted) (mon : Mon) (frame : Frame) (turn : Turn) (calm : Bool) (old new : List Turn) → IsMonitor s mon.0 → refusal_of s j mon.0 frame ≡ None
    → IsCounted s j mon.0 frame turn.kind turn.fails turn.widens → after ≡ j ++ turn_of s j (n.Got mon frame) → calm ≡ is_calm s after → old ≡ turns_of s j
    → new ≡ old ++ record turn { calm = calm } ∷ [] → new ≡ turns_of s after
turns_taken s j after mon frame turn calm old new range none counted is end kept pushed =
    let made : record turn { calm = calm } ∷ [] ≡ turned s j (n.Got mon frame) =
    ap (λ (t : Turn). t ∷ []) (turn_by counted.kind_is counted.fails_is counted.wide_is (end ∙ ap (is_calm s) is)) in
    pushed ∙ ap₂ (λ (xs ys : List Turn). xs ++ ys) kept made ∙ sym (turns_go s j (n.Got mon frame) (range.from_one, range.within, none)) ∙ ap (turns_of s) (sym is)

-- the turns with that of a retune
pub turns_retuned : (s : Setup) (j after : List Noted) (k e : ℕ) (calm : Bool) (old new : List Turn) → retune_refusal_of s j k e ≡ None
    → after ≡ j ++ turn_of s j (n.Tuned k (pos e)) → calm ≡ is_calm s after → old ≡ turns_of s j
    → new ≡ old ++ turn_with Tune false true calm ∷ [] → new ≡ turns_of s after
turns_retuned s j after k e calm old new none is end kept pushed =
    let made : turn_with Tune false true calm ∷ [] ≡ turned s j (n.Tuned k (pos e)) =
    ap (λ (t : Turn). t ∷ []) (turn_by {k = Tune} {g = false} {w = true} refl refl refl (end ∙ ap (is_calm s) is)) in
    pushed ∙ ap₂ (λ (xs ys : List Turn). xs ++ ys) kept made ∙ sym (turns_go s j (n.Tuned k (pos e)) (e, refl, none)) ∙ ap (turns_of s) (sym is)

-- ---- whether all have settled, by the peers

-- a current answer is a Settled or not
settled_kind : (answer : Option Frame) → is_settled_in (kind_in answer) ≡ is_some (settled_in answer)
settled_kind None = refl
settled_kind (Some (f.Hello run version mon)) = refl
settled_kind (Some (f.Report seq border failed values)) = refl
settled_kind (Some (f.Collect round asked)) = refl
settled_kind (Some (f.Values round seq border values)) = refl
settled_kind (Some (f.Assign seq members changes)) = refl
settled_kind (Some (f.Settled seq last places)) = refl
settled_kind (Some f.Stop) = refl

-- over the monitors from one on
settled_from : (j : List Noted) (first : ℕ) (peers : List Peer) → ((i : ℕ) (l : Peer) → slice_get peers i ≡ Some l → l ≡ peer_at j (i + first))
    → list_all has_settled peers ≡ list_all (λ mon. is_some (settled_of mon j)) (range_with_len first (length peers))
settled_from j first [] each = refl
settled_from j first (l ∷ peers) each =
    ap₂ ◌&&◌ (ap has_settled (each 0 l refl ∙ ap (peer_at j) (omega arith)) ∙ settled_kind (answer_of first j))
    (settled_from j (first + 1) peers (λ i m at. each (suc i) m at ∙ ap (peer_at j) (omega arith)))

-- it is calm where all have settled and no round is open
pub calm_by_peers : (s : Setup) (j : List Noted) (peers : List Peer) → is_open s j ≡ false → ArePeers s j peers → list_all has_settled peers ≡ is_calm s j
unfolding is_calm
calm_by_peers s j peers closed are =
    settled_from j 1 peers (λ i l at. are.each i l at ∙ ap (peer_at j) (omega arith))
    ∙ ap (λ (m : ℕ). list_all (λ mon. is_some (settled_of mon j)) (range_with_len 1 m)) are.count
    ∙ sym (ap (λ b. not b && list_all (λ mon. is_some (settled_of mon j)) (monitors s)) closed)

-- where a round is open it is not
pub uncalm_by_round : (s : Setup) (j : List Noted) (waiting : Bool) → waiting ≡ is_open s j → waiting ≡ true → false ≡ is_calm s j
uncalm_by_round s j waiting kept waits = sym (open_not_calm s j (sym kept ∙ waits))

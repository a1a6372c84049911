use Rattle.std.proofs.Common.{◌≡◌, ℕ, ◌∙◌, List, [], length, ap, ap₂, sym, subst}
use Rattle.std.specs.Prelude.{ℤ, pos}
use Rattle.std.proofs.lemmas.List.{length-replicate}
use Rattle.tk_input.specs.Logs.{ArePlaces}
use Rattle.tk_trail.specs.Setup.{MonitorSetup}
use Rattle.tk_trail.specs.Readings.{places_at}
use Rattle.tk_trail.specs.Legal.{IsLegal}
use Rattle.tk_trail.proofs.PlacesLemmas.{places_at-start}
use Rattle.tk_monitor.specs.Board.{BoardView}
use Rattle.tk_monitor.specs.Trail.{TrailView}
use Rattle.tk_monitor.specs.Kept.{standing_of, phase_of, left_in}
use Rattle.tk_monitor.specs.Start.{StandsAt}
use Rattle.tk_monitor.proofs.StartLemmas.{start_standing, start_legal}
use Rattle.tk_monitor.proofs.monitor.Monitor.new.Goals as goal

pub invariant_of-result : goal.invariant_of-result
invariant_of-result c =
    let n = c.args.settings.now.objects in
    let setup : MonitorSetup = record { number = c.args.mon.0; objects = n; parts = c.args.parts.items; from = c.in_ok-own.own } in
    let limits = c.objects.ensures.limits in
    let from : c.in_ok-own.own ≡ c.args.from.now = c.in_ok-own.ensures in
    let trail : c.in-Ok-new.trail ≡ record { entries = []; raises = c.left_of-left.result; spare = 0 } = c.in-Ok-new.ensures in
    let entries : c.in-Ok-new.trail.entries ≡ [] = ap (λ (l : TrailView). l.entries) trail in
    let next : c.in-Ok.next.items ≡ c.args.from.now = c.in-Ok.ensures.next in
    let zeros : length c.in_ok-board.board.levels ≡ n = ap (λ (s : BoardView). length s.levels) c.in_ok-board.ensures ∙ length-replicate {A = ℤ} c.objects.result (pos 0) ∙ c.objects.ensures.value in
    let stands : StandsAt n c.args.parts.items c.in_ok-own.own c.start.new.board =
    subst (λ (k : ℕ). StandsAt k c.args.parts.items c.in_ok-own.own c.start.new.board) zeros
    (subst (λ (ps : List (List (ℕ × ℤ))). StandsAt (length c.in_ok-board.board.levels) ps c.in_ok-own.own c.start.new.board) c.as_slice.ensures.value
    (subst (λ (ns : List ℕ). StandsAt (length c.in_ok-board.board.levels) c.as_slice.result.now ns c.start.new.board) (sym from) c.in-Ok.ensures.board)) in
    record {
      within = record {
        some_object = limits.some_object;
        objects = limits.objects;
        parts = c.requires.parts;
        from = subst (λ (ns : List ℕ). ArePlaces c.args.parts.items ns) (sym from) c.requires.places;
      };
      legal = subst (IsLegal setup) (sym entries) (start_legal setup);
      places = next ∙ sym from ∙ sym (places_at-start setup) ∙ ap (places_at setup) (sym entries);
      standing = start_standing setup c.start.new.board stands ∙ ap (standing_of setup) (sym entries);
      phase_is = ap phase_of (sym entries);
      room =
          ap (λ (l : TrailView). l.raises) trail
          ∙ c.left_of-left.ensures.value
          ∙ ap₂ (λ (ps : List (List (ℕ × ℤ))) (ns : List ℕ). left_in ps ns) c.as_slice-2.ensures.value c.as_slice-3.ensures.value;
    }

pub returns-clause-legal : goal.returns-clause-legal
returns-clause-legal c = (invariant_of-result c).legal

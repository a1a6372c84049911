-- Where the streams of a monitor begin.
use Rattle.std.proofs.Common.{◌≡◌, ℕ, zero, suc, ◌+◌, ◌<◌, List, [], ◌∷◌, ◌++◌, length, take, get_or, refl, ap, ap₂, ◌∙◌, arith}
use Rattle.tk_wire.specs.declared.beginning.Beginning.{Beginning}
use Rattle.tk_wire.specs.declared.greeting.Greeting.{Greeting}
use Rattle.tk_monitor.specs.Monitored.{MonitorView}
use Rattle.tk_trail.proofs.PlacesLemmas.{places_at-start}
use Rattle.tk_trail.specs.Readings.{places_at}
use Rattle.tk_compact.specs.Begun.{begun}
use Rattle.tk_watch.specs.Greeted.{IsGreetingOf, beginning, beginnings_of}
use Rattle.tk_watch.specs.Watch.{WatchView}

beginnings_next : (counts starts : List ℕ) (i : ℕ) → i < length counts → i < length starts
    → beginnings_of (take i counts) (take i starts) ++ beginning (get_or counts i 0) (get_or starts i 0) ∷ [] ≡ beginnings_of (take (suc i) counts) (take (suc i) starts)
beginnings_next [] starts i low high = absurd (omega (arith, low))
beginnings_next (n ∷ counts) [] i low high = absurd (omega (arith, high))
beginnings_next (n ∷ counts) (p ∷ starts) zero low high = refl
beginnings_next (n ∷ counts) (p ∷ starts) (suc i) low high =
    ap (λ (bs : List Beginning). beginning n p ∷ bs) (beginnings_next counts starts i (omega (arith, low)) (omega (arith, high)))

-- one more
pub beginnings_more : (counts starts : List ℕ) (i count start : ℕ) → i < length counts → i < length starts → count ≡ get_or counts i 0 → start ≡ get_or starts i 0
    → beginnings_of (take i counts) (take i starts) ++ beginning count start ∷ [] ≡ beginnings_of (take (i + 1) counts) (take (i + 1) starts)
beginnings_more counts starts i count start low high count_is start_is =
    let on : suc i ≡ i + 1 = omega arith in
    ap₂ (λ (n p : ℕ). beginnings_of (take i counts) (take i starts) ++ beginning n p ∷ []) count_is start_is
    ∙ beginnings_next counts starts i low high
    ∙ ap (λ (k : ℕ). beginnings_of (take k counts) (take k starts)) on

-- a greeting with these beginnings is that of a watch which begins anew
pub greeting_says : {W : Type 0} (w : WatchView W) (g : Greeting) (m : MonitorView) (counts starts : List ℕ)
    → g.run ≡ w.run → g.mon.0 ≡ w.monitor.setup.number → m ≡ begun w.monitor → starts ≡ places_at m.setup m.trail → counts ≡ w.counts → g.beginnings.items ≡ beginnings_of counts starts
    → IsGreetingOf w g
greeting_says w g m counts starts run mon anew starts_are counts_are is = record {
  run = run;
  mon = mon;
  beginnings = is ∙ ap₂ beginnings_of counts_are (starts_are ∙ ap (λ (n : MonitorView). places_at n.setup n.trail) anew ∙ places_at-start (begun w.monitor).setup);
}

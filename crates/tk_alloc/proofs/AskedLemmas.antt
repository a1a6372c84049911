-- A short or a full round from the values that the code has computed.
use Rattle.std.proofs.Common.{◌≡◌, ℕ, ◌^◌, ◌<◌, ◌≤◌, ℤ, pos, ◌+ℤ◌, ◌≤ℤ◌, unsigned_abs, List, ◌∷◌, length, map, get_or, Result, Ok, Err, if◌then◌else◌, refl, sym, ap, ◌∙◌, subst, arith}
use Rattle.std.specs.Prelude.{IfOk, IfErr}
use Rattle.std.specs.List.{All}
use Rattle.std.proofs.lemmas.Int.{ints}
use Rattle.std.proofs.lemmas.Result.{IfOk-weaker}
use Rattle.tk_base.specs.Objects.{is_in}
use Rattle.tk_base.specs.Pairs.{objects_of}
use Rattle.tk_base.specs.Settings.{Setup, IsWithinLimits}
use Rattle.tk_base.proofs.PairsLemmas.{objects_paired}
use Rattle.tk_rows.specs.declared.reallocation.Reallocation.{Reallocation}
use Rattle.tk_rows.specs.Factors.{Grid, AreBalanced, factor_at}
use Rattle.tk_alloc.specs.declared.alloc_fault.AllocFault.{AllocFault}
use Rattle.tk_alloc.specs.declared.alloc_fault.AllocFault.TheVariants.{PastLimit, NoMemory}
use Rattle.tk_alloc.specs.declared.reported.Reported.{Reported}
use Rattle.tk_alloc.specs.declared.terms.Borders.TheVariants.{AsReported}
use Rattle.tk_alloc.specs.declared.terms.Terms.{Terms}
use Rattle.tk_alloc.specs.Limit.{AreAllWithin, IsFirstPast, IsPastLimit, TellsFault}
use Rattle.tk_alloc.specs.Parts.{IsReallocation, value_of}
use Rattle.tk_alloc.specs.Resolving.{CanTakePart, IsReady, IsRound, round_border}
use Rattle.tk_alloc.specs.Search.{AreWithin, IsEven, by_node}
use Rattle.tk_alloc.specs.Terms.{AreTerms, parts_of}
use Rattle.tk_alloc.proofs.BorderLemmas.{border_size, factor_size}
use Rattle.tk_alloc.proofs.LimitLemmas.{all_given}
use Rattle.tk_alloc.proofs.RoundLemmas.{bordered, own_part}
use Rattle.tk_alloc.proofs.WideLemmas.{own_small, value_size}

-- what the code deals by
abbrev pub terms_of : ℕ → ℤ → List (ℕ × ℤ) → Terms
terms_of weight border values = record { own_weight = weight; own_border = border; own_values = values; borders = AsReported }

-- it is that of a round in which these members follow
pub record IsSet (setup : Setup) (grid : Grid) (present members all : List ℕ) (weight : ℕ) (border : ℤ) (values : List (ℕ × ℤ)) : Type 0 where
  pub weight_is : weight ≡ setup.own_weight
  pub border_is : border ≡ round_border setup grid present all
  pub values_are : values ≡ map (λ o. (o, if is_in members o then setup.epsilon else pos 0)) all

pub set_of : (setup : Setup) (grid : Grid) (present members all : List ℕ) (weight : ℕ) (border epsilon : ℤ) (values : List (ℕ × ℤ)) → weight ≡ setup.own_weight → border ≡ round_border setup grid present all → epsilon ≡ setup.epsilon
    → values ≡ map (λ o. (o, if is_in members o then epsilon else pos 0)) all → IsSet setup grid present members all weight border values
set_of setup grid present members all weight border epsilon values w b e v = record {
  weight_is = w;
  border_is = b;
  values_are = v ∙ ap (λ (z : ℤ). map (λ o. (o, if is_in members o then z else pos 0)) all) e;
}

set_objects : (setup : Setup) (grid : Grid) (present members all : List ℕ) (weight : ℕ) (border : ℤ) (values : List (ℕ × ℤ)) → IsSet setup grid present members all weight border values → objects_of values ≡ all
set_objects setup grid present members all weight border values s = ap objects_of s.values_are ∙ objects_paired (λ o. if is_in members o then setup.epsilon else pos 0) all

-- a reported border is small
pub report_border : (setup : Setup) (grid : Grid) (present all : List ℕ) (report : Reported) → IsReady setup grid present all → IsWithinLimits setup → AreBalanced grid → CanTakePart grid present all report → unsigned_abs report.border ≤ 2 ^ 113
report_border setup grid present all report ready limits balanced take =
    let t = get_or present 0 0 in
    let high : report.border ≤ℤ (value_of report.values t +ℤ factor_at grid report.mon.0 t) = take.high 0 0 (omega (arith, ready.count, limits.some_member)) in
    omega (arith, ints, high, take.low, value_size report.values t take.values.small, factor_size grid report.mon.0 t balanced)

pub set_terms : (setup : Setup) (grid : Grid) (present members all : List ℕ) (reports : List Reported) (weight : ℕ) (border : ℤ) (values : List (ℕ × ℤ)) → IsSet setup grid present members all weight border values → IsReady setup grid present all
    → IsWithinLimits setup → AreBalanced grid → All (CanTakePart grid present all) reports → 0 < length reports → length reports ≤ 64 → AreTerms grid (terms_of weight border values) reports
set_terms setup grid present members all reports weight border values s ready limits balanced take some few =
    let same = set_objects setup grid present members all weight border values s in
    record {
      own = record { same = refl; small = subst (All (λ (p : ℕ × ℤ). unsigned_abs p.1 ≤ 2 ^ 100)) (sym s.values_are) (own_small setup members all limits) };
      objects = subst (All (λ o. o ≤ length grid.rows)) (sym same) (λ k d within. let bound = ready.within k d within in omega (arith, bound, ready.size.objects));
      border = subst (λ (z : ℤ). unsigned_abs z ≤ 2 ^ 113) (sym s.border_is) (border_size setup grid present all ready limits balanced);
      weight = omega (arith, s.weight_is, limits.own_weight);
      some = some;
      count = few;
      parts = λ k d within.
          let take_k = take k d within in
          record {
            values = record { same = take_k.values.same ∙ sym same; small = take_k.values.small };
            some = take_k.some;
            monitor = take_k.monitor;
            border = report_border setup grid present all (get_or reports k d) ready limits balanced take_k;
          };
    }

-- what the code has dealt is the round's
pub set_round : (setup : Setup) (grid : Grid) (present members all : List ℕ) (reports : List Reported) (weight : ℕ) (border : ℤ) (values : List (ℕ × ℤ)) (change : Reallocation) → IsSet setup grid present members all weight border values
    → IsReallocation grid (parts_of (terms_of weight border values) reports) (objects_of values) members change → IsRound setup grid present members all reports change
set_round setup grid present members all reports weight border values change s r =
    let ms = bordered reports in
    let one = subst (λ os. IsReallocation grid (record { node = 0; weight = weight; border = border; values = values } ∷ ms) os members change) (set_objects setup grid present members all weight border values s) r in
    let two = subst (λ v. IsReallocation grid (record { node = 0; weight = weight; border = border; values = v } ∷ ms) all members change) s.values_are one in
    let three = subst (λ z. IsReallocation grid (record { node = 0; weight = weight; border = z; values = (own_part setup grid present members all).values } ∷ ms) all members change) s.border_is two in
    subst (λ n. IsReallocation grid (record { node = 0; weight = n; border = round_border setup grid present all; values = (own_part setup grid present members all).values } ∷ ms) all members change) s.weight_is three

-- ---- what is answered

pub ok_so : (r : Result Reallocation AllocFault) (change : Reallocation) (Q : Reallocation → Type 0) → IfOk r (λ x. x ≡ change) → Q change → IfOk r Q
ok_so r change Q same q = IfOk-weaker r (λ x. x ≡ change) Q (λ x e. subst Q (sym e) q) same

-- it is answered only where its factors are within their limit
pub ok_within : (r : Result Reallocation AllocFault) (change : Reallocation) (Q : Reallocation → Type 0) → IfOk r (λ x. x ≡ change) → IfOk r (λ x. (i : ℕ) → i < length x.own → AreWithin (by_node x) i)
    → (((i : ℕ) → i < length change.own → AreWithin (by_node change) i) → Q change) → IfOk r Q
ok_within (Ok x) change Q same within q = subst Q (sym same) (q (subst (λ (y : Reallocation). (i : ℕ) → i < length y.own → AreWithin (by_node y) i) same within))
ok_within (Err e) change Q same within q = tt

-- all factors of the round are within their limit, or the first that is not is told
pub ok_given : (r : Result Reallocation AllocFault) (change : Reallocation) (nodes : List (ℕ × List (ℕ × ℤ))) → IsEven change → by_node change ≡ nodes → IfOk r (λ x. x ≡ change)
    → IfOk r (λ x. (i : ℕ) → i < length x.own → AreWithin (by_node x) i) → IfOk r (λ _. AreAllWithin nodes)
ok_given r change nodes even is same within = ok_within r change (λ _. AreAllWithin nodes) same within (λ small. subst AreAllWithin is (all_given change even small))

-- a fault past the limit is what a round tells of these factors
pub err_so : (r : Result Reallocation AllocFault) (change : Reallocation) (nodes : List (ℕ × List (ℕ × ℤ))) → by_node change ≡ nodes → IfErr r (IsPastLimit (by_node change)) → IfErr r (TellsFault nodes)
err_so (Ok x) change nodes is past = tt
err_so (Err (PastLimit o node factor)) change nodes is past = subst (λ ns. IsFirstPast ns o.0 node factor) is past
err_so (Err NoMemory) change nodes is past = tt

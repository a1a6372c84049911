-- What is written piece by piece.
use Rattle.std.proofs.Common.{◌≡◌, ℕ, List, [], ◌++◌, Option, Some, None, option_map, Ok, Err, Result, refl, ap, sym, subst, ◌∙◌, append_assoc, append-nil}
use Rattle.std.specs.Prelude.{OnErr, OnOk}
use Rattle.tk_input.specs.Sink.{Grows, GrowsByFront}

-- nothing was written yet
pub grows_none : (a : Option (List ℕ)) → Grows a a []
grows_none None = refl
grows_none (Some bytes) = ap (λ (b : List ℕ). Some b) (sym (append-nil bytes))

-- one text, then another
pub grows_more : (a b c : Option (List ℕ)) (x y : List ℕ) → Grows a b x → Grows b c y → Grows a c (x ++ y)
grows_more None b c x y first second = second ∙ ap (λ (o : Option (List ℕ)). option_map (λ w. w ++ y) o) first
grows_more (Some bytes) b c x y first second =
    second ∙ ap (λ (o : Option (List ℕ)). option_map (λ w. w ++ y) o) first ∙ ap (λ (w : List ℕ). Some w) (append_assoc bytes x y)

-- a text that stands in front of more
pub front_of : (a b : Option (List ℕ)) (x y : List ℕ) → Grows a b x → GrowsByFront a b (x ++ y)
front_of a b x y first = (x, y, refl, first)

-- a front of a text, with more behind it
pub front_longer : (a b : Option (List ℕ)) (x y : List ℕ) → GrowsByFront a b x → GrowsByFront a b (x ++ y)
front_longer a b x y (front, back, is, grows) = (front, back ++ y, ap (λ (l : List ℕ). l ++ y) is ∙ append_assoc front back y, grows)

-- a text, and a front of the next
pub front_more : (a b c : Option (List ℕ)) (x y : List ℕ) → Grows a b x → GrowsByFront b c y → GrowsByFront a c (x ++ y)
front_more a b c x y first (front, back, is, grows) =
    (x ++ front, back, ap (λ (l : List ℕ). x ++ l) is ∙ sym (append_assoc x front back), grows_more a b c x front first grows)

-- a put of these bytes failed, with more to come
pub put_failed : (a b : Option (List ℕ)) (bytes x y : List ℕ) → bytes ≡ x → GrowsByFront a b bytes → GrowsByFront a b (x ++ y)
put_failed a b bytes x y is failed = front_longer a b x y (subst (λ (l : List ℕ). GrowsByFront a b l) is failed)

-- a put of these bytes was done
pub put_done : (a b : Option (List ℕ)) (bytes x : List ℕ) → bytes ≡ x → Grows a b bytes → Grows a b x
put_done a b bytes x is done = subst (λ (l : List ℕ). Grows a b l) is done

pub put_front : (a b : Option (List ℕ)) (bytes x : List ℕ) → bytes ≡ x → GrowsByFront a b bytes → GrowsByFront a b x
put_front a b bytes x is failed = subst (λ (l : List ℕ). GrowsByFront a b l) is failed

-- ---- a text in pieces: what is done, the next piece, and the rest

-- nothing more was put
pub stops_before : (a b : Option (List ℕ)) (done rest text : List ℕ) → text ≡ done ++ rest → Grows a b done → GrowsByFront a b text
stops_before a b done rest text is grown = subst (λ (l : List ℕ). GrowsByFront a b l) (sym is) (front_of a b done rest grown)

-- the put of the next piece failed
pub stops_within : (a b c : Option (List ℕ)) (done piece next rest text bytes : List ℕ) → next ≡ done ++ piece → text ≡ next ++ rest → bytes ≡ piece
    → Grows a b done → GrowsByFront b c bytes → GrowsByFront a c text
stops_within a b c done piece next rest text bytes more is put grown failed =
    let within : GrowsByFront a c (done ++ piece) = front_more a b c done piece grown (put_front b c bytes piece put failed) in
    subst (λ (l : List ℕ). GrowsByFront a c l) (sym is)
    (front_longer a c next rest (subst (λ (l : List ℕ). GrowsByFront a c l) (sym more) within))

-- the next piece was put
pub goes_on : (a b c : Option (List ℕ)) (done piece next bytes : List ℕ) → next ≡ done ++ piece → bytes ≡ piece
    → Grows a b done → Grows b c bytes → Grows a c next
goes_on a b c done piece next bytes more put grown done_too =
    subst (λ (l : List ℕ). Grows a c l) (sym more) (grows_more a b c done piece grown (put_done b c bytes piece put done_too))

-- ---- a text, and then what a call did of the next

pub then_err : {T E : Type 0} (result : Result T E) (a b c : Option (List ℕ)) (x y : List ℕ) → Grows a b x → OnErr result (GrowsByFront b c y) → OnErr result (GrowsByFront a c (x ++ y))
then_err (Ok done) a b c x y first then = tt
then_err (Err fault) a b c x y first then = front_more a b c x y first then

pub then_ok : {T E : Type 0} (result : Result T E) (a b c : Option (List ℕ)) (x y : List ℕ) → Grows a b x → OnOk result (Grows b c y) → OnOk result (Grows a c (x ++ y))
then_ok (Ok done) a b c x y first then = grows_more a b c x y first then
then_ok (Err fault) a b c x y first then = tt

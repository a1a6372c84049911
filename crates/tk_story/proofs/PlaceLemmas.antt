-- Where the next frame of a link stands.
use Rattle.tk_journal.specs.declared.noted.Noted.TheVariants as n
use Rattle.std.proofs.Common.{◌≡◌, ℕ, ◌==◌, Bool, true, false, List, [], ◌∷◌, ◌++◌, Option, Some, None, refl, ap, ◌∙◌}
use Rattle.std.specs.Prelude.{if◌then◌else◌}
use Rattle.std.specs.List.{cons_option}
use Rattle.std.proofs.lemmas.Bool.{eqb-true}
use Rattle.tk_base.specs.declared.ids.Mon.{Mon}
use Rattle.tk_frames.specs.declared.frame.Frame.{Frame}
use Rattle.tk_journal.specs.Links.{frames_to, sent_to}
use Rattle.tk_journal.specs.declared.noted.Noted.{Noted}
use Rattle.tk_trail.specs.Readings.{sent_by}
use Rattle.tk_trail.specs.declared.entry.Entry.{Entry}
use Rattle.tk_trail.specs.declared.entry.Entry.TheVariants.{Raised, Took, Sent}

heads_agree : (x y : Frame) (xs ys : List Frame) → x ∷ xs ≡ y ∷ ys → x ≡ y
heads_agree x y xs ys e = cc

tails_agree : (x y : Frame) (xs ys : List Frame) → x ∷ xs ≡ y ∷ ys → xs ≡ ys
tails_agree x y xs ys e = cc

some_agree : (x y : Frame) → Some x ≡ Some y → x ≡ y
some_agree x y e = cc

no_more : (xs : List Frame) (g : Frame) (rest : List Frame) → [] ≡ xs ++ g ∷ rest → ⊥
no_more [] g rest e = cc
no_more (x ∷ xs) g rest e = cc

-- ---- in a journal

pub record SentPlace (mon : ℕ) (j : List Noted) (xs : List Frame) (g : Frame) : Type 0 where
  pub before : List Noted
  pub to : Mon
  pub after : List Noted
  pub is : j ≡ before ++ n.Sent to g ∷ after
  pub own : to.0 ≡ mon
  pub sent : frames_to mon before ≡ xs

if_some : (b : Bool) (x y : Frame) → (if b then Some x else None) ≡ Some y → (b ≡ true) × (x ≡ y)
if_some true x y e = (refl, some_agree x y e)
if_some false x y e = absurd (cc)

sent_is : (mon : ℕ) (e : Noted) (g : Frame) → sent_to mon e ≡ Some g → (to : Mon) × (e ≡ n.Sent to g) × (to.0 ≡ mon)
sent_is mon (n.Got from frame) g is = absurd (cc)
sent_is mon (n.Published p) g is = absurd (cc)
sent_is mon (n.Tuned k epsilon) g is = absurd (cc)
sent_is mon (n.Sent to frame) g is = let both = if_some (to.0 == mon) frame g is in (to, ap (λ q. n.Sent to q) both.1, eqb-true to.0 mon both.0)

place_from : (mon : ℕ) (e : Noted) (j : List Noted) (o : Option Frame) → sent_to mon e ≡ o → (xs : List Frame) (g : Frame) (rest : List Frame) → cons_option o (frames_to mon j) ≡ xs ++ g ∷ rest
    → ((ys : List Frame) → frames_to mon j ≡ ys ++ g ∷ rest → SentPlace mon j ys g) → SentPlace mon (e ∷ j) xs g
place_from mon e j None none xs g rest is later =
    let h = later xs is in
    record { before = e ∷ h.before; to = h.to; after = h.after; is = ap (λ es. e ∷ es) h.is; own = h.own; sent = ap (λ o. cons_option o (frames_to mon h.before)) none ∙ h.sent }
place_from mon e j (Some x) some [] g rest is later =
    let same = heads_agree x g (frames_to mon j) rest is in
    let at = sent_is mon e g (some ∙ ap (λ q. Some q) same) in
    record { before = []; to = at.0; after = j; is = ap (λ q. q ∷ j) at.1; own = at.2; sent = refl }
place_from mon e j (Some x) some (y ∷ ys) g rest is later =
    let same = heads_agree x y (frames_to mon j) (ys ++ g ∷ rest) is in
    let h = later ys (tails_agree x y (frames_to mon j) (ys ++ g ∷ rest) is) in
    record { before = e ∷ h.before; to = h.to; after = h.after; is = ap (λ es. e ∷ es) h.is; own = h.own; sent = ap (λ o. cons_option o (frames_to mon h.before)) some ∙ ap (λ q. q ∷ frames_to mon h.before) same ∙ ap (λ qs. y ∷ qs) h.sent }

pub sent_place : (mon : ℕ) (j : List Noted) (xs : List Frame) (g : Frame) (rest : List Frame) → frames_to mon j ≡ xs ++ g ∷ rest → SentPlace mon j xs g
sent_place mon [] xs g rest is = absurd (no_more xs g rest is)
sent_place mon (e ∷ j) xs g rest is = place_from mon e j (sent_to mon e) refl xs g rest is (λ ys is'. sent_place mon j ys g rest is')

-- ---- in a trail

pub record TrailPlace (trail : List Entry) (xs : List Frame) (g : Frame) : Type 0 where
  pub before : List Entry
  pub after : List Entry
  pub is : trail ≡ before ++ Sent g ∷ after
  pub sent : sent_by before ≡ xs

pub trail_place : (trail : List Entry) (xs : List Frame) (g : Frame) (rest : List Frame) → sent_by trail ≡ xs ++ g ∷ rest → TrailPlace trail xs g
trail_place [] xs g rest is = absurd (no_more xs g rest is)
trail_place (Raised f ∷ trail) xs g rest is = let h = trail_place trail xs g rest is in record { before = Raised f ∷ h.before; after = h.after; is = ap (λ es. Raised f ∷ es) h.is; sent = h.sent }
trail_place (Took q ∷ trail) xs g rest is = let h = trail_place trail xs g rest is in record { before = Took q ∷ h.before; after = h.after; is = ap (λ es. Took q ∷ es) h.is; sent = h.sent }
trail_place (Sent q ∷ trail) [] g rest is = let same = heads_agree q g (sent_by trail) rest is in record { before = []; after = trail; is = ap (λ x. Sent x ∷ trail) same; sent = refl }
trail_place (Sent q ∷ trail) (x ∷ xs) g rest is =
    let same = heads_agree q x (sent_by trail) (xs ++ g ∷ rest) is in
    let h = trail_place trail xs g rest (tails_agree q x (sent_by trail) (xs ++ g ∷ rest) is) in
    record { before = Sent q ∷ h.before; after = h.after; is = ap (λ es. Sent q ∷ es) h.is; sent = ap (λ z. z ∷ sent_by h.before) same ∙ ap (λ zs. x ∷ zs) h.sent }

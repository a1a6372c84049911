-- What was heard and said stays what came and went.
use Rattle.std.proofs.Common.{◌≡◌, ◌≤◌, ◌+◌, ◌-◌, ◌^◌, min, ℕ, List, ◌++◌, length, take, ap, sym, ◌∙◌, subst, append_assoc, arith, Option}
use Rattle.std.proofs.lemmas.List.{length-append, take-take}
use Rattle.std.proofs.lemmas.Grind.{flat_map-append}
use Rattle.tk_base.specs.History.{IsFront}
use Rattle.tk_frames.specs.declared.frame.Frame.{Frame}
use Rattle.tk_frames.specs.Spelling.{spelling}
use Rattle.tk_wire.specs.Parse.{HaveSpellings, IsEncoding, IsParse, spellings}
use Rattle.tk_wire.proofs.ParseLemmas.{parse-piece}
use Rattle.tk_end.specs.Hearing.{Hears}
use Rattle.tk_end.specs.Link.{IsEnd, IsShut, LinkView, Says}
use Rattle.tk_end.proofs.HearingLemmas.{HaveSpellings-append, parse_on}

encoding_more : (v : ℕ) (said more : List Frame) (went given old new : List ℕ) → IsEncoding v said went old → HaveSpellings v more → old ++ spellings v more ≡ given ++ new → IsEncoding v (said ++ more) (went ++ given) new
encoding_more v said more went given old new e each is = record {
  each = HaveSpellings-append v said more e.each each;
  parts =
      append_assoc went given new ∙ ap (λ xs. went ++ xs) (sym is) ∙ sym (append_assoc went old (spellings v more))
      ∙ ap (λ xs. xs ++ spellings v more) e.parts ∙ sym (flat_map-append (spelling v) said more);
}

-- what is written and given goes on with what was said
pub says_end : {W : Type 0} (said heard opening : List Frame) (x y : LinkView W) → Says said x y → IsEnd x heard (opening ++ take x.written said) → IsEnd y heard (opening ++ take y.written said)
says_end said heard opening x y s e = record {
  came = λ tells.
      let there = s.tells in
      let before = e.came (sym there ∙ tells) in
      subst (λ v. IsParse v heard y.traffic.came y.unread) (sym s.version)
      (subst (λ xs. IsParse x.version heard xs y.unread) (sym (s.departed (sym there ∙ tells)).came) (subst (λ xs. IsParse x.version heard x.traffic.came xs) (sym s.unread) before));
  went = λ tells.
      let told = sym s.tells ∙ tells in
      let frames = append_assoc opening (take x.written said) s.frames ∙ ap (λ xs. opening ++ xs) (sym s.reached) in
      let more = encoding_more x.version (opening ++ take x.written said) s.frames x.traffic.went s.given x.output y.output (e.went told) s.each s.output in
      subst (λ v. IsEncoding v (opening ++ take y.written said) y.traffic.went y.output) (sym s.version)
      (subst (λ xs. IsEncoding x.version (opening ++ take y.written said) xs y.output) (sym (s.departed told).went) (subst (λ fs. IsEncoding x.version fs (x.traffic.went ++ s.given) y.output) frames more));
  covered = subst (λ v. min (length (spellings v heard) + length y.unread) (2 ^ 64 - 1) ≤ y.counts.taken) (sym s.version)
      (omega (arith, e.covered, s.taken, ap length s.unread));
}

-- what is taken of what comes goes on with what was heard
pub hears_end : {W A R : Type 0} (refusal : ℕ → Frame → A → Option R) (after : ℕ → Frame → A → A) (heard said : ℕ → A → List Frame) (peer least : ℕ) (opening spoken : List Frame) (x y : LinkView W) (a b : A)
    → Hears refusal after heard said peer least x y a b → IsEnd x (opening ++ heard peer a) spoken → IsEnd y (opening ++ heard peer b) spoken
hears_end refusal after heard said peer least opening spoken x y a b h e =
    let keeps = h.listens.keeps in
    let frames = append_assoc opening (heard peer a) h.takes.frames ∙ ap (λ xs. opening ++ xs) (sym h.takes.more) in
    record {
      came = λ tells.
          let told = sym keeps.tells ∙ tells in
          let piece = parse-piece x.version (opening ++ heard peer a) x.traffic.came x.unread h.piece (e.came told) in
          let all = parse_on x.version (opening ++ heard peer a) h.takes.frames (x.traffic.came ++ h.piece) (x.unread ++ h.piece) y.unread piece h.takes.parse in
          subst (λ v. IsParse v (opening ++ heard peer b) y.traffic.came y.unread) (sym keeps.version)
          (subst (λ xs. IsParse x.version (opening ++ heard peer b) xs y.unread) (sym (h.listens.arrived told).came) (subst (λ fs. IsParse x.version fs (x.traffic.came ++ h.piece) y.unread) frames all));
      went = λ tells.
          let told = sym keeps.tells ∙ tells in
          subst (λ v. IsEncoding v spoken y.traffic.went y.output) (sym keeps.version)
          (subst (λ xs. IsEncoding x.version spoken xs y.output) (sym (h.listens.arrived told).went) (subst (λ xs. IsEncoding x.version spoken x.traffic.went xs) (sym keeps.output) (e.went told)));
      covered =
          let lengths = ap length h.takes.parse.parts in
          let left = length-append x.unread h.piece in
          let right = length-append (spellings x.version h.takes.frames) y.unread in
          let more = ap length (flat_map-append (spelling x.version) (opening ++ heard peer a) h.takes.frames) ∙ length-append (spellings x.version (opening ++ heard peer a)) (spellings x.version h.takes.frames) in
          subst (λ v. min (length (spellings v (opening ++ heard peer b)) + length y.unread) (2 ^ 64 - 1) ≤ y.counts.taken) (sym keeps.version)
          (subst (λ fs. min (length (spellings x.version fs) + length y.unread) (2 ^ 64 - 1) ≤ y.counts.taken) frames
          (omega (arith, e.covered, h.listens.taken, lengths, left, right, more)));
    }

-- what was written of what there is to say stays, where there is more to say
pub said_grown : (n : ℕ) (xs ys : List Frame) → n ≤ length xs → IsFront xs ys → take n xs ≡ take n ys
said_grown n xs ys within front = ap (take n) front.is ∙ take-take n (length xs) ys within

-- a wire that is shut leaves what was heard and said
pub shut_end : {W : Type 0} (heard said : List Frame) (x y : LinkView W) → IsShut x y → IsEnd x heard said → IsEnd y heard said
shut_end heard said x y s e = record {
  came = λ tells.
      let told = sym s.tells ∙ tells in
      subst (λ v. IsParse v heard y.traffic.came y.unread) (sym s.version)
      (subst (λ t. IsParse x.version heard t.came y.unread) (sym (s.traffic told)) (subst (λ xs. IsParse x.version heard x.traffic.came xs) (sym s.unread) (e.came told)));
  went = λ tells.
      let told = sym s.tells ∙ tells in
      subst (λ v. IsEncoding v said y.traffic.went y.output) (sym s.version)
      (subst (λ t. IsEncoding x.version said t.went y.output) (sym (s.traffic told)) (subst (λ xs. IsEncoding x.version said x.traffic.went xs) (sym s.output) (e.went told)));
  covered = subst (λ v. min (length (spellings v heard) + length y.unread) (2 ^ 64 - 1) ≤ y.counts.taken) (sym s.version)
      (omega (arith, e.covered, ap length s.unread, ap (λ c. c.taken) s.counts));
}

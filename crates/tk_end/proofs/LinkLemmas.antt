-- Bytes that come, one piece behind the other, and the frames that the actor takes of them.
use Rattle.std.proofs.Common.{◌≡◌, ◌≤◌, ◌<◌, ◌+◌, ℕ, List, [], ◌++◌, length, ap, sym, ◌∙◌, refl, subst, append_assoc, arith, Option, Some, None, IfNone, OnSome, Bool, true}
use Rattle.std.proofs.lemmas.List.{append-nil, length-append}
use Rattle.tk_frames.specs.declared.frame.Frame.{Frame}
use Rattle.tk_frames.specs.declared.answer.Next.TheVariants as n
use Rattle.tk_frames.specs.Answer.{Answers}
use Rattle.tk_wire.specs.Meanings.{Arrives, Traffic}
use Rattle.tk_wire.specs.Buffered.{Pulls, counts_pulled}
use Rattle.tk_wire.specs.Parse.{spellings}
use Rattle.tk_wire.specs.declared.in_buffer.Pulled.{Pulled}
use Rattle.tk_wire.specs.declared.in_buffer.Pulled.TheVariants as p
use Rattle.tk_wire.proofs.BufferLemmas.{arrives_more}
use Rattle.tk_end.specs.Hearing.{Hears, Takes, least_of}
use Rattle.tk_end.specs.declared.hearing.Heard.{Heard}
use Rattle.tk_end.specs.declared.hearing.Heard.TheVariants as h
use Rattle.tk_end.specs.Link.{Keeps, LinkView, Listens}
use Rattle.tk_end.proofs.HearingLemmas.{takes_nothing, takes_on}

pub keeps_refl : {W : Type 0} (x : LinkView W) → Keeps x x
keeps_refl x = record { tells = refl; version = refl; output = refl; written = refl; shut = refl }

pub keeps_trans : {W : Type 0} (x y z : LinkView W) → Keeps x y → Keeps y z → Keeps x z
keeps_trans x y z k l = record {
  tells = l.tells ∙ k.tells;
  version = l.version ∙ k.version;
  output = l.output ∙ k.output;
  written = l.written ∙ k.written;
  shut = l.shut ∙ k.shut;
}

pub arrives_nothing : (x y : Traffic) → y ≡ x → Arrives [] x y
arrives_nothing x y same = record {
  waiting = sym (ap (λ t. t.waiting) same);
  came = ap (λ t. t.came) same ∙ sym (append-nil x.came);
  went = ap (λ t. t.went) same;
  held = ap (λ t. t.held) same;
  room = ap (λ t. t.room) same;
}

-- the taken frames stay a front where bytes come behind them
takes_before : {A R : Type 0} (refusal : ℕ → Frame → A → Option R) (after : ℕ → Frame → A → A) (heard said : ℕ → A → List Frame) (peer version : ℕ) (old new piece : List ℕ) (a b : A)
    → Takes refusal after heard said peer version old new a b → Takes refusal after heard said peer version (old ++ piece) (new ++ piece) a b
takes_before refusal after heard said peer version old new piece a b t = record {
  frames = t.frames;
  parse = record { each = t.parse.each; parts = ap (λ xs. xs ++ piece) t.parse.parts ∙ append_assoc (spellings version t.frames) new piece };
  takes = t.takes;
  more = t.more;
  grown = t.grown;
}

-- how many bytes a pull brings at least
abbrev pub least_in : Pulled → ℕ
least_in (p.Got n) = 1
least_in p.NotYet = 0
least_in p.End = 0
least_in p.Failed = 0
least_in p.NoMemory = 0

module _ {W A R : Type 0} (refusal : ℕ → Frame → A → Option R) (after : ℕ → Frame → A → A) (heard said : ℕ → A → List Frame) (peer : ℕ) where
  -- frames were taken, and no byte came
  pub hears_nothing : (old new : LinkView W) (a b : A) → Keeps old new → new.traffic ≡ old.traffic → new.counts ≡ old.counts
      → Takes refusal after heard said peer old.version old.unread new.unread a b → Hears refusal after heard said peer 0 old new a b
  hears_nothing old new a b keeps traffic counts takes = record {
    piece = [];
    size = omega arith;
    listens = record { keeps = keeps; arrived = λ _. arrives_nothing old.traffic new.traffic traffic; taken = rw (counts) (omega arith) };
    takes = subst (λ xs. Takes refusal after heard said peer old.version xs new.unread a b) (sym (append-nil old.unread)) takes;
  }

  -- and then further ones
  pub hears_on : (k m n : ℕ) (x y z : LinkView W) (a b c : A) → k ≤ m + n → Hears refusal after heard said peer m x y a b → Hears refusal after heard said peer n y z b c → Hears refusal after heard said peer k x z a c
  hears_on k m n x y z a b c least f s =
      let first : Takes refusal after heard said peer x.version (x.unread ++ f.piece ++ s.piece) (y.unread ++ s.piece) a b = takes_before refusal after heard said peer x.version (x.unread ++ f.piece) y.unread s.piece a b f.takes in
      let second : Takes refusal after heard said peer x.version (y.unread ++ s.piece) z.unread b c = subst (λ v. Takes refusal after heard said peer v (y.unread ++ s.piece) z.unread b c) f.listens.keeps.version s.takes in
      let both = takes_on refusal after heard said peer x.version (x.unread ++ f.piece ++ s.piece) (y.unread ++ s.piece) z.unread a b c first second in
      record {
        piece = f.piece ++ s.piece;
        size = omega (arith, f.size, s.size, length-append f.piece s.piece);
        listens = record {
          keeps = keeps_trans x y z f.listens.keeps s.listens.keeps;
          arrived = λ tells. arrives_more f.piece s.piece x.traffic y.traffic z.traffic (f.listens.arrived tells) (s.listens.arrived (f.listens.keeps.tells ∙ tells));
          taken = omega (arith, f.listens.taken, s.listens.taken, length-append f.piece s.piece);
        };
        takes = subst (λ xs. Takes refusal after heard said peer x.version xs z.unread a c) (append_assoc x.unread f.piece s.piece) both;
      }

  -- a piece came, and nothing was taken
  hears_piece : (k : ℕ) (piece : List ℕ) (old new : LinkView W) (a : A) → k ≤ length piece → Listens piece old new → new.unread ≡ old.unread ++ piece → Hears refusal after heard said peer k old new a a
  hears_piece k piece old new a least listens is = record {
    piece = piece;
    size = least;
    listens = listens;
    takes = subst (λ xs. Takes refusal after heard said peer old.version (old.unread ++ piece) xs a a) (sym is) (takes_nothing refusal after heard said peer old.version (old.unread ++ piece) a);
  }

  hears_none : (old new : LinkView W) (a : A) → Keeps old new → new.unread ≡ old.unread → (old.tells ≡ true → new.traffic ≡ old.traffic) → new.counts.taken ≡ old.counts.taken → Hears refusal after heard said peer 0 old new a a
  hears_none old new a keeps unread traffic taken =
      hears_piece 0 [] old new a (omega arith)
      (record { keeps = keeps; arrived = λ tells. arrives_nothing old.traffic new.traffic (traffic tells); taken = omega (arith, taken) })
      (unread ∙ sym (append-nil old.unread))

  pub hears_pulled : (pulled : Pulled) (old new : LinkView W) (a : A) → Pulls pulled old.tells old.unread new.unread old.traffic new.traffic → new.counts ≡ counts_pulled pulled old.counts → Keeps old new → Hears refusal after heard said peer (least_in pulled) old new a a
  hears_pulled (p.Got n) old new a pulls counts keeps =
      hears_piece 1 pulls.1.piece old new a (omega (arith, pulls.0.0, pulls.1.size))
      (record { keeps = keeps; arrived = pulls.1.arrived; taken = omega (arith, pulls.1.size, ap (λ c. c.taken) counts) })
      pulls.1.appended
  hears_pulled p.NotYet old new a pulls counts keeps = hears_none old new a keeps pulls.0 (λ tells. (pulls.1 tells).1) (ap (λ c. c.taken) counts)
  hears_pulled p.End old new a pulls counts keeps = hears_none old new a keeps pulls.0 pulls.1 (ap (λ c. c.taken) counts)
  hears_pulled p.Failed old new a pulls counts keeps = hears_none old new a keeps pulls.0 pulls.1 (ap (λ c. c.taken) counts)
  hears_pulled p.NoMemory old new a pulls counts keeps = hears_none old new a keeps pulls.0 pulls.1 (ap (λ c. c.taken) counts)

-- frames were taken, further ones, and then one pull was made
pub hears_then_pulled : {W A R : Type 0} (refusal : ℕ → Frame → A → Option R) (after : ℕ → Frame → A → A) (heard said : ℕ → A → List Frame) (peer : ℕ) (pulled : Pulled) (x y z w : LinkView W) (a b c : A)
    → Hears refusal after heard said peer 0 x y a b → Hears refusal after heard said peer 0 y z b c
    → Pulls pulled z.tells z.unread w.unread z.traffic w.traffic → w.counts ≡ counts_pulled pulled z.counts → Keeps z w → Hears refusal after heard said peer 0 x w a c
hears_then_pulled refusal after heard said peer pulled x y z w a b c first second pulls counts keeps =
    let both = hears_on refusal after heard said peer 0 0 0 x y z a b c (omega arith) first second in
    hears_on refusal after heard said peer 0 0 (least_in pulled) x z w a c c (omega arith) both (hears_pulled refusal after heard said peer pulled z w c pulls counts keeps)

-- bytes that are no whole frame yet are few
pub part_is_short : (version : ℕ) (bytes : List ℕ) → Answers version bytes n.Part → length bytes < 2097156
part_is_short version bytes part = omega arith

-- no hearing has more than its pieces
pub pieces_are_few : {R : Type 0} (heard : Heard R) → least_of heard ≤ 64
pieces_are_few h.More = omega arith
pieces_are_few h.Quiet = omega arith
pieces_are_few h.Done = omega arith
pieces_are_few h.Failed = omega arith
pieces_are_few h.Ended = omega arith
pieces_are_few (h.Refused why) = omega arith
pieces_are_few (h.Bad fault) = omega arith
pieces_are_few h.NoMemory = omega arith

-- one step takes a frame, or nothing
pub taken_or_same : {A R S : Type 0} (refusal : ℕ → Frame → A → Option R) (after : ℕ → Frame → A → A) (heard said : ℕ → A → List Frame) (peer version : ℕ) (old new : List ℕ) (a b : A) (step : Option S)
    → IfNone step (Takes refusal after heard said peer version old new a b) → OnSome step ((new ≡ old) × (b ≡ a)) → Takes refusal after heard said peer version old new a b
taken_or_same refusal after heard said peer version old new a b None takes same = takes
taken_or_same refusal after heard said peer version old new a b (Some step) takes same = subst (λ x. Takes refusal after heard said peer version old new a x) (sym same.1) (subst (λ xs. Takes refusal after heard said peer version old xs a a) (sym same.0) (takes_nothing refusal after heard said peer version old a))

-- a fact of an answer that is known
pub where_none : {S : Type 0} (step : Option S) (P : Type 0) → step ≡ None → IfNone step P → P
where_none None P is p = p
where_none (Some s) P is p = absurd (cc)

pub where_some : {S : Type 0} (step : Option S) (s : S) (P : Type 0) → step ≡ Some s → OnSome step P → P
where_some None s P is p = absurd (cc)
where_some (Some t) s P is p = p

-- a piece makes what is not read longer
pub pulled_longer : (n : ℕ) (tells : Bool) (old new : List ℕ) (before after : Traffic) → Pulls (p.Got n) tells old new before after → length old < length new
pulled_longer n tells old new before after pulls = omega (arith, ap length pulls.1.appended, length-append old pulls.1.piece, pulls.1.size, pulls.0.0)

-- Frames that are written and bytes that are given.
use Rattle.std.proofs.Common.{◌≡◌, ◌≤◌, ◌+◌, ℕ, List, [], ◌∷◌, ◌++◌, length, take, ap, sym, ◌∙◌, refl, subst, append_assoc, arith, Some, slice_get}
use Rattle.std.proofs.lemmas.List.{append-nil, take_more}
use Rattle.std.proofs.lemmas.Option.{get_or_from_slice_get, slice_get_within}
use Rattle.std.proofs.lemmas.Grind.{flat_map-append}
use Rattle.tk_frames.specs.declared.frame.Frame.{Frame}
use Rattle.tk_frames.specs.Encoding.{Appends}
use Rattle.tk_frames.specs.Spelling.{payload, spelling}
use Rattle.tk_wire.specs.Meanings.{Counts, Departs, Traffic}
use Rattle.tk_wire.specs.Buffered.{Loses, counts_pushed}
use Rattle.tk_wire.specs.declared.out_buffer.Pushed.{Pushed}
use Rattle.tk_wire.specs.declared.out_buffer.Pushed.TheVariants as p
use Rattle.tk_wire.specs.Parse.{spellings}
use Rattle.tk_wire.proofs.BufferLemmas.{departs_more}
use Rattle.tk_end.specs.Link.{LinkView, Says}
use Rattle.tk_end.proofs.HearingLemmas.{HaveSpellings-append}

pub departs_nothing : (x y : Traffic) → y ≡ x → Departs [] x y
departs_nothing x y same = record {
  went = ap (λ t. t.went) same ∙ sym (append-nil x.went);
  held = ap (λ t. t.held) same ∙ sym (append-nil x.held);
  came = ap (λ t. t.came) same;
  waiting = ap (λ t. t.waiting) same;
  room = ap (λ t. t.room) same;
}

pub says_nothing : {W : Type 0} (said : List Frame) (x : LinkView W) → x.written ≤ length said → Says said x x
says_nothing said x within = record {
  tells = refl;
  version = refl;
  unread = refl;
  front = refl;
  shut = refl;
  taken = refl;
  within = within;
  frames = [];
  reached = sym (append-nil (take x.written said));
  each = tt;
  given = [];
  output = append-nil x.output;
  departed = λ _. departs_nothing x.traffic x.traffic refl;
}

-- one more frame is written
pub says_more : {W : Type 0} (said : List Frame) (x y z : LinkView W) (frame : Frame) → Says said x y → slice_get said y.written ≡ Some frame → Appends y.version frame y.output z.output → z ≡ record y { output = z.output; written = y.written + 1 } → Says said x z
says_more said x y z frame s at appends is =
    let place = slice_get_within said y.written frame at in
    let writes : z.written ≡ y.written + 1 = ap (λ l. l.written) is in
    let spelled : appends.bytes ≡ spelling x.version frame = appends.spelled.bytes_are ∙ ap (λ v. spelling v frame) s.version in
    record {
      tells = ap (λ l. l.tells) is ∙ s.tells;
      version = ap (λ l. l.version) is ∙ s.version;
      unread = ap (λ l. l.unread) is ∙ s.unread;
      front = ap (λ l. l.front) is ∙ s.front;
      shut = ap (λ l. l.shut) is ∙ s.shut;
      taken = ap (λ l. l.counts.taken) is ∙ s.taken;
      within = omega arith;
      frames = s.frames ++ frame ∷ [];
      reached = ap (λ n. take n said) writes ∙ take_more said y.written frame place ∙ ap (λ f. take y.written said ++ f ∷ []) (get_or_from_slice_get said y.written frame frame at) ∙ ap (λ xs. xs ++ frame ∷ []) s.reached ∙ append_assoc (take x.written said) s.frames (frame ∷ []);
      each = HaveSpellings-append x.version s.frames (frame ∷ []) s.each (record { frame_is = appends.spelled.frame_is; fits = subst (λ v. length (payload v frame) ≤ 2097152) s.version appends.spelled.fits; bytes_are = refl }, tt);
      given = s.given;
      output =
          ap (λ xs. x.output ++ xs) (flat_map-append (spelling x.version) s.frames (frame ∷ []) ∙ ap (λ xs. spellings x.version s.frames ++ xs) (append-nil (spelling x.version frame)))
          ∙ sym (append_assoc x.output (spellings x.version s.frames) (spelling x.version frame))
          ∙ ap (λ xs. xs ++ spelling x.version frame) s.output
          ∙ append_assoc s.given y.output (spelling x.version frame)
          ∙ ap (λ xs. s.given ++ xs) (sym (appends.appended ∙ ap (λ xs. y.output ++ xs) spelled));
      departed = λ tells. subst (λ t. Departs s.given x.traffic t) (sym (ap (λ l. l.traffic) is)) (s.departed tells);
    }

-- a front of what was written is given
pub says_given : {W : Type 0} (said : List Frame) (x y z : LinkView W) → Says said x y → Loses y.tells y.output z.output y.traffic z.traffic → z.tells ≡ y.tells → z.version ≡ y.version → z.unread ≡ y.unread → z.front ≡ y.front → z.shut ≡ y.shut → z.written ≡ y.written → z.counts.taken ≡ y.counts.taken → Says said x z
says_given said x y z s loses tells version unread front shut written taken = record {
  tells = tells ∙ s.tells;
  version = version ∙ s.version;
  unread = unread ∙ s.unread;
  front = front ∙ s.front;
  shut = shut ∙ s.shut;
  taken = taken ∙ s.taken;
  within = omega (arith, written, s.within);
  frames = s.frames;
  reached = ap (λ n. take n said) written ∙ s.reached;
  each = s.each;
  given = s.given ++ loses.given;
  output = s.output ∙ ap (λ xs. s.given ++ xs) loses.front ∙ sym (append_assoc s.given loses.given z.output);
  departed = λ is. departs_more s.given loses.given x.traffic y.traffic z.traffic (s.departed is) (loses.departed (s.tells ∙ is));
}

-- a push changes no count of bytes taken
pub pushed_taken : (pushed : Pushed) (counts : Counts) → (counts_pushed pushed counts).taken ≡ counts.taken
pushed_taken p.Empty counts = refl
pushed_taken p.NotYet counts = refl
pushed_taken p.Failed counts = refl

-- only what is to be given changes, and how many frames are written
pub writes_on : {W : Type 0} (x y z : LinkView W) (n : ℕ) → y ≡ record x { output = y.output; written = y.written } → z ≡ record y { output = z.output; written = n } → z ≡ record x { output = z.output; written = z.written }
writes_on {W} x y z n first second =
    let there : LinkView W → LinkView W = λ l. record l { output = z.output; written = n } in
    let count : n ≡ z.written = sym (ap (λ l. l.written) second) in
    second ∙ ap there first ∙ ap (λ k. record x { output = z.output; written = k }) count

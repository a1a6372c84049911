-- Bytes that pass over a wire during a whole call.
use Rattle.std.proofs.Common.{◌≤◌, ◌+◌, ℕ, List, [], ◌++◌, ap, sym, ◌∙◌, refl, append_assoc, append-nil, arith, Option}
use Rattle.std.proofs.lemmas.List.{length-append}
use Rattle.tk_frames.specs.declared.frame.Frame.{Frame}
use Rattle.tk_wire.specs.Meanings.{Traffic}
use Rattle.tk_end.specs.Hearing.{Hears}
use Rattle.tk_end.specs.Link.{IsShut, LinkView, Moves, Passes, Says}

moves_on : (a b x y : List ℕ) (s t u : Traffic) → Moves a x s t → Moves b y t u → Moves (a ++ b) (x ++ y) s u
moves_on a b x y s t u p q = record {
  waiting = p.waiting ∙ ap (λ xs. a ++ xs) q.waiting ∙ sym (append_assoc a b u.waiting);
  came_on = q.came_on ∙ ap (λ xs. xs ++ b) p.came_on ∙ append_assoc s.came a b;
  went_on = q.went_on ∙ ap (λ xs. xs ++ y) p.went_on ∙ append_assoc s.went x y;
  held = q.held ∙ ap (λ xs. xs ++ y) p.held ∙ append_assoc s.held x y;
  room = q.room ∙ p.room;
}

pub passes_on : {W : Type 0} (k m n : ℕ) (x y z : LinkView W) → k ≤ m + n → Passes m x y → Passes n y z → Passes k x z
passes_on k m n x y z least p q = record {
  tells = q.tells ∙ p.tells;
  version = q.version ∙ p.version;
  came = p.came ++ q.came;
  given = p.given ++ q.given;
  size = omega (arith, p.size, q.size, length-append p.came q.came);
  taken = omega (arith, p.taken, q.taken, length-append p.came q.came);
  moved = λ tells. moves_on p.came q.came p.given q.given x.traffic y.traffic z.traffic (p.moved tells) (q.moved (p.tells ∙ tells));
}

pub passes_said : {W : Type 0} (said : List Frame) (x y : LinkView W) → Says said x y → Passes 0 x y
passes_said said x y s = record {
  tells = s.tells;
  version = s.version;
  came = [];
  given = s.given;
  size = omega arith;
  taken = omega (arith, s.taken);
  moved = λ tells. let d = s.departed tells in record {
    waiting = sym d.waiting;
    came_on = d.came ∙ sym (append-nil x.traffic.came);
    went_on = d.went;
    held = d.held;
    room = d.room;
  };
}

pub passes_heard : {W A R : Type 0} (refusal : ℕ → Frame → A → Option R) (after : ℕ → Frame → A → A) (heard said : ℕ → A → List Frame) (peer least : ℕ) (x y : LinkView W) (a b : A)
    → Hears refusal after heard said peer least x y a b → Passes least x y
passes_heard refusal after heard said peer least x y a b h = record {
  tells = h.listens.keeps.tells;
  version = h.listens.keeps.version;
  came = h.piece;
  given = [];
  size = h.size;
  taken = h.listens.taken;
  moved = λ tells. let d = h.listens.arrived tells in record {
    waiting = d.waiting;
    came_on = d.came;
    went_on = d.went ∙ sym (append-nil x.traffic.went);
    held = d.held ∙ sym (append-nil x.traffic.held);
    room = d.room;
  };
}

pub passes_nothing : {W : Type 0} (x : LinkView W) → Passes 0 x x
passes_nothing x = record {
  tells = refl;
  version = refl;
  came = [];
  given = [];
  size = omega arith;
  taken = omega arith;
  moved = λ tells. record {
    waiting = refl;
    came_on = sym (append-nil x.traffic.came);
    went_on = sym (append-nil x.traffic.went);
    held = sym (append-nil x.traffic.held);
    room = refl;
  };
}

pub passes_shut : {W : Type 0} (x y : LinkView W) → IsShut x y → Passes 0 x y
passes_shut x y s = record {
  tells = s.tells;
  version = s.version;
  came = [];
  given = [];
  size = omega arith;
  taken = omega (arith, ap (λ c. c.taken) s.counts);
  moved = λ tells. let same = s.traffic tells in record {
    waiting = sym (ap (λ t. t.waiting) same);
    came_on = ap (λ t. t.came) same ∙ sym (append-nil x.traffic.came);
    went_on = ap (λ t. t.went) same ∙ sym (append-nil x.traffic.went);
    held = ap (λ t. t.held) same ∙ sym (append-nil x.traffic.held);
    room = ap (λ t. t.room) same;
  };
}

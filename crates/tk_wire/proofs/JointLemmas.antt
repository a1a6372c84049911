-- Bytes on their way from wire to wire.
use Rattle.std.proofs.Common.{ℕ, ◌++◌, List, take, drop, ap, sym, ◌∙◌, append_assoc}
use Rattle.std.proofs.lemmas.List.{take-append-drop}
use Rattle.tk_wire.specs.Meanings.{Traffic, Arrives, Departs}
use Rattle.tk_wire.specs.PipeWire.{drained, filled}
use Rattle.tk_wire.specs.Joint.{Joins, BeginsWith}

pub joins-given : (from to next : Traffic) (between bytes : List ℕ) → Joins from to between → Departs bytes from next → Joins next to between
joins-given from to next between bytes j d = record {
  bytes = d.went ∙ ap (λ xs. xs ++ bytes) j.bytes ∙ append_assoc (to.came ++ to.waiting ++ between) from.held bytes ∙ ap (λ xs. to.came ++ to.waiting ++ between ++ xs) (sym d.held);
}

pub joins-drained : (from to : Traffic) (between : List ℕ) (n : ℕ) → Joins from to between → Joins (drained n from) to (between ++ take n from.held)
joins-drained from to between n j = record {
  bytes = j.bytes ∙ ap (λ xs. to.came ++ to.waiting ++ between ++ xs) (sym (take-append-drop n from.held)) ∙ sym (append_assoc (to.came ++ to.waiting ++ between) (take n from.held) (drop n from.held)) ∙ ap (λ xs. xs ++ drop n from.held) (append_assoc (to.came ++ to.waiting) between (take n from.held));
}

pub joins-filled : (from to : Traffic) (between : List ℕ) (n : ℕ) → Joins from to between → Joins from (filled (take n between) to) (drop n between)
joins-filled from to between n j = record {
  bytes = j.bytes ∙ ap (λ xs. xs ++ from.held) (ap (λ xs. to.came ++ to.waiting ++ xs) (sym (take-append-drop n between)) ∙ sym (append_assoc (to.came ++ to.waiting) (take n between) (drop n between)) ∙ ap (λ xs. xs ++ drop n between) (append_assoc to.came to.waiting (take n between)));
}

pub joins-taken : (from to next : Traffic) (between bytes : List ℕ) → Joins from to between → Arrives bytes to next → Joins from next between
joins-taken from to next between bytes j a = record {
  bytes = j.bytes ∙ ap (λ xs. xs ++ between ++ from.held) (ap (λ xs. to.came ++ xs) a.waiting ∙ sym (append_assoc to.came bytes next.waiting) ∙ ap (λ xs. xs ++ next.waiting) (sym a.came));
}

pub joins-front : (from to : Traffic) (between : List ℕ) → Joins from to between → BeginsWith to.came from.went
joins-front from to between j = record {
  rest = to.waiting ++ (between ++ from.held);
  parts = j.bytes ∙ append_assoc (to.came ++ to.waiting) between from.held ∙ append_assoc to.came to.waiting (between ++ from.held);
}

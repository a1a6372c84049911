-- Statuses that tell faults, and rules one after the other.
use Rattle.std.proofs.Common.{◌≡◌, ◌∙◌, true, false, Result, Ok, Err, is_ok, ap, sym, subst}
use Rattle.tk_load.specs.Faults.{Fault, after}
use Rattle.tk_load.specs.Reads.{Meets, Says, Tells}
use Rattle.tk_load.specs.declared.status.Status.{Status}
use Rattle.tk_load.specs.declared.status.Status.TheVariants as s

-- no fault is told of what is meant
pub none_is_meant : {V : Type 0} (meant : Result V Fault) (fault : Fault) → is_ok meant ≡ true → meant ≡ Err fault → ⊥
none_is_meant {V} meant fault ok is = let bad : false ≡ true = subst (λ (m : Result V Fault). is_ok m ≡ true) is ok in cc (bad)

-- a status that says the fault that there is tells it
pub tells_of : {V : Type 0} (status : Status) (fault : Fault) (meant : Result V Fault) → Says status fault → meant ≡ Err fault → Tells status meant
tells_of (s.ReadFault file) fault meant says is = is ∙ ap (λ (f : Fault). Err f) says
tells_of (s.BadInput file line kind) fault meant says is = is ∙ ap (λ (f : Fault). Err f) says
tells_of (s.TooGreat mon obj) fault meant says is = is ∙ ap (λ (f : Fault). Err f) says
tells_of s.NoMemory fault meant says is = tt
tells_of s.Done fault meant says is = absurd says
tells_of s.Usage fault meant says is = absurd says
tells_of s.WriteFault fault meant says is = absurd says
tells_of s.LinkFault fault meant says is = absurd says
tells_of (s.LinkDiffers difference) fault meant says is = absurd says
tells_of (s.BadTrace file wrong) fault meant says is = absurd says

-- a fault is still that of a rule and those after it
pub tells_on : {V W : Type 0} (status : Status) (meant : Result V Fault) (next : V → Result W Fault) → Tells status meant → Tells status (after meant next)
tells_on (s.ReadFault file) meant next is = ap (λ (m : Result _ Fault). after m next) is
tells_on (s.BadInput file line kind) meant next is = ap (λ (m : Result _ Fault). after m next) is
tells_on (s.TooGreat mon obj) meant next is = ap (λ (m : Result _ Fault). after m next) is
tells_on s.NoMemory meant next is = tt
tells_on s.Done meant next is = absurd is
tells_on s.Usage meant next is = absurd is
tells_on s.WriteFault meant next is = absurd is
tells_on s.LinkFault meant next is = absurd is
tells_on (s.LinkDiffers difference) meant next is = absurd is
tells_on (s.BadTrace file fault) meant next is = absurd is

-- what comes after a rule that gives something
pub meets_after : {V W B : Type 0} (view : B → W) (meant : Result V Fault) (x : V) (next : V → Result W Fault) (answer : Result B Status) → meant ≡ Ok x → Meets view (next x) answer → Meets view (after meant next) answer
meets_after view meant x next answer is meets = subst (λ (m : Result _ Fault). Meets view (after m next) answer) (sym is) meets

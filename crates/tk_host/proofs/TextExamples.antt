-- Lines and sessions written out.
use Rattle.std.proofs.Common.{◌≡◌, ℕ, pos, true, false, List, [], ◌∷◌, refl}
use Rattle.std.specs.Prelude.{codes}
use Rattle.std.specs.Fmt.{digits}
use Rattle.tk_host.specs.Session.{Seated}
use Rattle.tk_host.specs.Text.{absolute_text, set_text, sessions_text}
use Rattle.tk_host.specs.declared.cause.Cause.TheVariants as c
use Rattle.tk_host.specs.declared.over.Over.TheVariants as o
use Rattle.tk_host.specs.declared.seat.Seat.TheVariants as st

abbrev names : List (List ℕ)
names = codes "ash" ∷ codes "birch" ∷ []

-- the first of two streams starts behind two changes that stand for both: its origin is -2, the other's is 2
two_streams : absolute_text (record { count = 0; start = 2 } ∷ record { count = 2; start = 0 } ∷ []) (2 ∷ 0 ∷ []) ≡ codes "0,2"
unfolding digits
two_streams = refl

-- a set of a session in which nobody told a beginning
a_set : set_text names [] (record { number = 1; last = true; k = 1; epsilon = pos 0; members = 2 ∷ []; cut = (3 ∷ []) ∷ [] }) ≡ codes "final 1 cut 1:3 members birch\n"
unfolding digits
a_set = refl

-- a session that ended as monitor 1 greeted again, and one behind it that is left without a line
two_sessions : sessions_text names 1 (record { told = []; journal = []; over = o.Ended (c.Again (record { 0 = 1 })) } ∷ record { told = []; journal = []; over = o.Finished } ∷ []) ≡ codes "session 1\nended 1 again 1\nsession 2\n"
unfolding digits
two_sessions = refl

-- a session that ended as its journal was full
a_full_session : sessions_text names 1 (record { told = []; journal = []; over = o.Ended c.Full } ∷ []) ≡ codes "session 1\nended 1 full\n"
unfolding digits
a_full_session = refl

-- a set of a session in which a stand-in sits in the seat of monitor 2: what the stand-in counts is no place
a_set_without : set_text names (st.Missing (record { 0 = 2 }) ∷ []) (record { number = 1; last = false; k = 1; epsilon = pos 0; members = 1 ∷ []; cut = (3 ∷ []) ∷ (0 ∷ []) ∷ [] }) ≡ codes "set 1 cut 1:3 2:- members ash\n"
unfolding digits
a_set_without = refl

-- a session in which monitor 2 was missing, and came back
a_return : sessions_text names 1 (record { told = Seated (st.Missing (record { 0 = 2 })) ∷ []; journal = []; over = o.Ended (c.Back (record { 0 = 2 })) } ∷ []) ≡ codes "session 1\nmissing 2\nended 1 back 2\n"
unfolding digits
a_return = refl

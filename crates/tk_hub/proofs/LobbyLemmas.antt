-- Connections that are greeted, key by key.
use Rattle.std.proofs.Common.{◌≡◌, ◌↔◌, ◌<◌, ◌+◌, ◌-◌, ℕ, suc, false, List, length, set, Option, Some, None, Result, Ok, Err, refl, sym, ap, ◌∙◌, subst, arith, inl, inr}
use Rattle.std.specs.Prelude.{IsErr}
use Rattle.std.proofs.lemmas.List.{length-set}
use Rattle.slab.specs.Slab.{Slab, Updates, get, slab_len}
use Rattle.tk_base.specs.declared.ids.Mon.{Mon}
use Rattle.tk_base.specs.declared.memory.NoMemory.{NoMemory}
use Rattle.tk_end.specs.Link.{LinkView}
use Rattle.tk_wire.specs.Meanings.{Counts, raised_by}
use Rattle.tk_hub.specs.Door.{DoorView, GreetsAt, GreetsHeld, GreetsSlot, GreetsSome, GreetsUpTo, IsAnswered, IsTakenOut, IsTurnedAway, IsWelcomed, LobbyView, StaysHeld}
use Rattle.tk_hub.proofs.TurnLemmas.{open_set}
use Rattle.tk_hub.specs.Hub.{EachOpen}
use Rattle.tk_hub.specs.Seats.{AreSeats, IsFree, SeatsView}
use Rattle.tk_hub.specs.Visitor.{Gathers, Greets, VisitorView}
use Rattle.tk_hub.specs.declared.visitor.Greeting.{Greeting}
use Rattle.tk_hub.specs.declared.visitor.Greeting.TheVariants as g

pub updates_on : {T : Type 0} (a b c : Slab T) (key other : ℕ) (slot : Option T) → Updates a b key None → other ≡ key → Updates b c other slot → Updates a c key slot
updates_on a b c key other slot p same q = record {
  changed = ap (get c) (sym same) ∙ q.changed;
  others = λ k apart. q.others k (λ e. apart (e ∙ same)) ∙ p.others k apart;
}

-- a connection is taken out, and held on under the same key
pub stays_held : {W : Type 0} (key strangers : ℕ) (after : VisitorView W) (held mid : Slab (VisitorView W)) (s t : LobbyView W) (links : List (Option (LinkView W))) → record { held = held; strangers = strangers } ≡ s → Updates held mid key None → slab_len mid + 1 ≡ slab_len held → mid.vacant_key ≡ key → Updates mid t.held mid.vacant_key (Some after) → slab_len t.held ≡ slab_len mid + 1 → t.strangers ≡ strangers → StaysHeld key after (record { lobby = s; links = links }) (record { lobby = t; links = links })
stays_held key strangers after held mid s t links is p n k q m e =
    subst (λ x. StaysHeld key after (record { lobby = x; links = links }) (record { lobby = t; links = links })) is (record {
      updates = updates_on held mid t.held key mid.vacant_key (Some after) p k q;
      count = m ∙ n;
      strangers = e;
      links = refl;
    })

-- a connection is taken out, closed and counted
pub turned_away : {W : Type 0} (key strangers : ℕ) (held mid : Slab (VisitorView W)) (s t : LobbyView W) (links : List (Option (LinkView W))) → record { held = held; strangers = strangers } ≡ s → Updates held mid key None → slab_len mid + 1 ≡ slab_len held → t ≡ record { held = mid; strangers = raised_by 1 strangers } → IsTakenOut key (record { lobby = s; links = links }) (record { lobby = t; links = links }) × IsTurnedAway (record { lobby = s; links = links }) (record { lobby = t; links = links })
turned_away {W} key strangers held mid s t links is p n e =
    subst (λ y. IsTakenOut key (record { lobby = s; links = links }) (record { lobby = y; links = links }) × IsTurnedAway (record { lobby = s; links = links }) (record { lobby = y; links = links })) (sym e)
    (subst (λ x. IsTakenOut {W = W} key (record { lobby = x; links = links }) (record { lobby = record { held = mid; strangers = raised_by 1 strangers }; links = links }) × IsTurnedAway {W = W} (record { lobby = x; links = links }) (record { lobby = record { held = mid; strangers = raised_by 1 strangers }; links = links })) is
    (record { updates = p; count = n }, record { strangers = refl; links = refl }))

-- a welcome looks at the count of strangers and at the links alone
pub welcomed : {W : Type 0} (run monitors : ℕ) (mon : Mon) (after : VisitorView W) (held mid : Slab (VisitorView W)) (strangers : ℕ) (links : List (Option (LinkView W))) (new : DoorView W) → IsWelcomed run monitors mon after (record { lobby = record { held = mid; strangers = strangers }; links = links }) new → IsWelcomed run monitors mon after (record { lobby = record { held = held; strangers = strangers }; links = links }) new
welcomed run monitors mon after held mid strangers links new w =
    elim w [
      | inl a ↦ inl (a.0, record { strangers = a.1.strangers; link = a.1.link; goes_on = a.1.goes_on; greeted = a.1.greeted; links = a.1.links })
      | inr a ↦ inr (a.0, record { strangers = a.1.strangers; links = a.1.links })
    ]

-- a connection is taken out and welcomed
pub taken_out : {W : Type 0} (run monitors key strangers : ℕ) (mon : Mon) (after : VisitorView W) (held mid : Slab (VisitorView W)) (s t : LobbyView W) (links later : List (Option (LinkView W))) → record { held = held; strangers = strangers } ≡ s → Updates held mid key None → slab_len mid + 1 ≡ slab_len held → t.held ≡ mid → IsWelcomed run monitors mon after (record { lobby = record { held = mid; strangers = strangers }; links = links }) (record { lobby = t; links = later }) → IsTakenOut key (record { lobby = s; links = links }) (record { lobby = t; links = later }) × IsWelcomed run monitors mon after (record { lobby = s; links = links }) (record { lobby = t; links = later })
taken_out run monitors key strangers mon after held mid s t links later is p n e w =
    subst (λ x. IsTakenOut key (record { lobby = x; links = links }) (record { lobby = t; links = later }) × IsWelcomed run monitors mon after (record { lobby = x; links = links }) (record { lobby = t; links = later })) is
    (record { updates = subst (λ h. Updates held h key None) (sym e) p; count = subst (λ h. slab_len h + 1 ≡ slab_len held) (sym e) n }, welcomed run monitors mon after held mid strangers links (record { lobby = t; links = later }) w)

-- the connection that is held there is greeted, and answered
pub greets_here : {W : Type 0} (counts : W → Counts) (run told monitors key strangers : ℕ) (result : Result (Unit {0}) NoMemory) (greeting : Greeting) (v after : VisitorView W) (held : Slab (VisitorView W)) (s : LobbyView W) (links : List (Option (LinkView W))) (new : DoorView W) → record { held = held; strangers = strangers } ≡ s → Some v ≡ get held key → told ≡ run → Greets told greeting v after → Gathers v after → counts after.wire ≡ after.counts → IsAnswered run monitors key greeting after (record { lobby = s; links = links }) new → IsErr result ↔ (greeting ≡ g.NoMemory) → GreetsAt counts run monitors key result (record { lobby = s; links = links }) new
greets_here {W} counts run told monitors key strangers result greeting v after held s links new is at same p q t a m =
    let old : DoorView W = record { lobby = s; links = links } in
    subst (λ slot. GreetsSlot counts run monitors key result slot old new) (at ∙ ap (λ x. get x.held key) is) (record {
      after = after;
      greeting = greeting;
      greets = subst (λ n. Greets n greeting v after) same p;
      gathers = q;
      counted = t;
      answered = a;
      memory = m;
    })

pub greets_more : {W : Type 0} (counts : W → Counts) (run monitors key : ℕ) (old mid new : DoorView W) → GreetsUpTo counts run monitors key old mid → GreetsAt counts run monitors key (Ok tt) mid new → GreetsUpTo counts run monitors (key + 1) old new
greets_more counts run monitors key old mid new p q =
    let next : suc key ≡ key + 1 = omega arith in
    subst (λ k. GreetsUpTo counts run monitors k old new) next (mid, p, q)

-- a key is greeted, over seats whose run and settings are as they were
pub greets_same : {W : Type 0} (counts : W → Counts) (seats now : SeatsView W) (key : ℕ) (result : Result (Unit {0}) NoMemory) (mid new : DoorView W) → now ≡ record seats { links = now.links } → GreetsAt counts now.run now.coordinator.settings.monitors key result mid new → GreetsAt counts seats.run seats.coordinator.settings.monitors key result mid new
greets_same counts seats now key result mid new is q =
    let run = ap (λ s. s.run) is in
    let monitors = ap (λ s. s.coordinator.settings.monitors) is in
    subst (λ n. GreetsAt counts n seats.coordinator.settings.monitors key result mid new) run (subst (λ m. GreetsAt counts now.run m key result mid new) monitors q)

-- one more key
pub greets_step : {W : Type 0} (counts : W → Counts) (seats now : SeatsView W) (key : ℕ) (old mid new : DoorView W) → now ≡ record seats { links = now.links } → GreetsUpTo counts seats.run seats.coordinator.settings.monitors key old mid → GreetsAt counts now.run now.coordinator.settings.monitors key (Ok tt) mid new → GreetsUpTo counts seats.run seats.coordinator.settings.monitors (key + 1) old new
greets_step counts seats now key old mid new is p q = greets_more counts seats.run seats.coordinator.settings.monitors key old mid new p (greets_same counts seats now key (Ok tt) mid new is q)

-- the greeting behind some of the first found no memory
pub greets_wanting : {W : Type 0} (counts : W → Counts) (run monitors : ℕ) (result : Result (Unit {0}) NoMemory) (old new : DoorView W) → IsErr result → GreetsSome counts run monitors old new → GreetsHeld counts run monitors result old new
greets_wanting counts run monitors (Ok x) old new wants some = absurd (cc)
greets_wanting counts run monitors (Err e) old new wants some = some

-- seats that twice changed in their links alone
pub links_alone : {W : Type 0} (a b c : SeatsView W) → b ≡ record a { links = b.links } → c ≡ record b { links = c.links } → c ≡ record a { links = c.links }
links_alone {W} a b c p q = q ∙ ap (λ (s : SeatsView W). record s { links = c.links }) p

-- where a link that is open takes a free seat, all links are open that were
pub open_seated : {W : Type 0} (mon : ℕ) (a b : SeatsView W) (link : LinkView W) → IsFree mon a.coordinator.settings.monitors a.links → AreSeats b → b ≡ record a { links = set a.links (mon - 1) (Some link) } → link.shut ≡ false → EachOpen a.links → EachOpen b.links
open_seated mon a b link free kept is on each =
    let size = length-set a.links (mon - 1) (Some link) in
    let within : mon - 1 < length a.links = omega (arith, free.some, free.within, kept.count, ap (λ s. length s.links) is, ap (λ s. s.coordinator.settings.monitors) is, size) in
    subst (λ s. EachOpen s.links) (sym is) (open_set a.links (mon - 1) (Some link) within on each)

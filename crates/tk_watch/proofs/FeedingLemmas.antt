-- What a stream gave, one record or tick more.
use Rattle.std.proofs.Common.{ℕ, Bool, List, [], ◌∷◌, ◌++◌, Some, refl, subst}
use Rattle.tk_base.specs.declared.ids.Feeder.{Feeder}
use Rattle.tk_stream.specs.Line.{IsItemOf}
use Rattle.tk_stream.specs.Records.{FailsItem, FindsItem, Unread}
use Rattle.tk_stream.specs.declared.item.Item.{Item}
use Rattle.tk_stream.specs.declared.item.Item.TheVariants as i
use Rattle.tk_stream.specs.declared.records.StreamFault.{StreamFault}
use Rattle.tk_stream.specs.declared.records.StreamFault.TheVariants as s
use Rattle.tk_watch.specs.Feeding.{Gathers, Gives, Pauses, kind_by}
use Rattle.tk_watch.specs.Windows.{IsItemIn}
use Rattle.tk_watch.specs.declared.gathered.Gathered.TheVariants.{Failed, More}

-- a record that was read is of the catalogue
pub item_in : (ticks : Bool) (n : ℕ) (item : Item) → IsItemOf ticks n item → IsItemIn n item
item_in ticks n (i.Record c) is = is
item_in ticks n i.Tick is = tt

pub gives_more : (ticks : Bool) (names : List (List ℕ)) (old now new : Unread) (items : List Item) (item : Item) → Gives ticks names old items now → FindsItem ticks names (Some item) now new → Gives ticks names old (items ++ item ∷ []) new
gives_more ticks names old now new [] item gives finds = (new, (subst (λ (u : Unread). FindsItem ticks names (Some item) u new) gives finds, refl))
gives_more ticks names old now new (b ∷ items) item gives finds = (gives.0, (gives.1.0, gives_more ticks names gives.0 now new items item gives.1.1 finds))

-- no more were read for now
pub gathers_on : (ticks : Bool) (names : List (List ℕ)) (f : Feeder) (old new : Unread) (items : List Item) → Gives ticks names old items new → Gathers ticks names f old items More new
gathers_on ticks names f old new items gives = record { behind = new; gives = gives; pauses = refl }

-- a fault that is told to the process
pub pauses_failed : (ticks : Bool) (names : List (List ℕ)) (f : Feeder) (fault : StreamFault) (old new : Unread) → FailsItem ticks names fault old new → Pauses ticks names f (Failed (kind_by fault)) old new
pauses_failed ticks names f (s.Bad line fault) old new fails = fails
pauses_failed ticks names f s.ReadFailed old new fails = fails
pauses_failed ticks names f s.NoMemory old new fails = tt

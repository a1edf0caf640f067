-- What the calls of the ends answer.
use Rattle.std.specs.Prelude.{◌≡◌, ℕ, List}
use mathlib.Core.List.{IsPrefix}
use Rattle.eventpool.specs.declared.ends.Stolen.{Stolen}
use Rattle.eventpool.specs.declared.ends.Stolen.TheVariants.{One, Empty, Again}
use Rattle.eventpool.specs.DequeTrail.{trail_tickets, got_by, NamedBelow}
use Rattle.eventpool.specs.Ends.{Owning, Stealing}

module _ {T : Type 0} where
  -- a fact of the ticket, where one was stolen
  abbrev pub IfOne : Stolen T → (T → Type 0) → Type 0
  IfOne (One x) fact = fact x
  IfOne Empty fact = Unit {0}
  IfOne Again fact = Unit {0}

  -- a fact, where the deque was found empty
  abbrev pub IfEmpty : Stolen T → Type 0 → Type 0
  IfEmpty (One x) fact = Unit {0}
  IfEmpty Empty fact = fact
  IfEmpty Again fact = Unit {0}

  -- a fact, where the thief may try again
  abbrev pub IfAgain : Stolen T → Type 0 → Type 0
  IfAgain (One x) fact = Unit {0}
  IfAgain Empty fact = Unit {0}
  IfAgain Again fact = fact

  -- at one moment all that was put had left: the trail then begins with what the owner had seen, and has no more of the owner's
  abbrev pub IsAllGone : Owning T → Type 0
  IsAllGone o =
      (trail : List (ℕ × T)) × IsPrefix o.seen trail × (o.put ≡ trail_tickets trail) × (o.taken ≡ got_by 0 trail) × NamedBelow o.given trail

  -- at one moment all that had been put had left: the trail then begins with what the thief had seen, and has no more of the thief's
  abbrev pub IsBare : Stealing T → Type 0
  IsBare t =
      (trail : List (ℕ × T)) × (put : List T) × IsPrefix t.seen trail × (put ≡ trail_tickets trail) × (t.stolen ≡ got_by t.name trail)

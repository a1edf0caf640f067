-- The rule of one deque, and what its steps tell.
use Rattle.std.specs.Prelude.{◌≡◌, ℕ, ◌+◌, ◌<◌, true, false, List, [], ◌∷◌, ◌++◌, length}
use mathlib.Core.Option.{some}
use mathlib.Core.List.{IsPrefix}
use lib.ListN.{get_elem?}
use Rattle.eventpool.specs.declared.rule.Hand.{Hand}
use Rattle.eventpool.specs.DequeTrail.{trail_tickets, got_by, NamedBelow, AreHands, EndsWith}

module _ {T : Type 0} where
  -- what an owner knows
  abbrev pub owner : ℕ → List T → List T → List (ℕ × T) → List (List T × List (ℕ × T)) → Hand T
  owner given put taken seen back = record { owns = true; named = true; name = 0; given = given; put = put; got = taken; seen = seen; back = back }

  -- what a thief knows
  abbrev pub thief : ℕ → List T → List (ℕ × T) → Hand T
  thief name stolen seen = record { owns = false; named = true; name = name; given = 0; put = []; got = stolen; seen = seen; back = [] }

  -- what a pass without a name knows
  abbrev pub nameless_hand : Hand T
  nameless_hand = record { owns = false; named = false; name = 0; given = 0; put = []; got = []; seen = []; back = [] }

  -- what the rule says of one pass: `seat` says which pass has a name, and the names from `open` on came back
  pub record FitsDeque (seat : ℕ → ℕ) (opened : ℕ) (put : List T) (trail : List (ℕ × T)) (port : ℕ) (v : Hand T) : Type 0 where
    pub seen : IsPrefix v.seen trail
    pub named : v.named ≡ true → (seat v.name ≡ port) × (v.name < opened) × (v.got ≡ got_by v.name trail)
    pub owns : v.owns ≡ true → (v.named ≡ true) × (v.name ≡ 0) × (v.put ≡ put) × (opened + length v.back ≡ v.given) × AreHands opened v.back trail × NamedBelow v.given trail

  -- there is one trail
  pub record DequeInvariant (items : List T) (views : List (Hand T)) : Type 0 where
    pub seat : ℕ → ℕ
    pub opened : ℕ
    pub trail : List (ℕ × T)
    pub each : (port : ℕ) (v : Hand T) → get_elem? views port ≡ some v → FitsDeque seat opened (trail_tickets trail ++ items) trail port v

  -- a ticket left at the front, which the trail has now
  abbrev pub Removed : Hand T → List T → Hand T → Type 0
  Removed v xs w =
      (w ≡ record v { got = v.got ++ xs; seen = w.seen })
      × ((x : T) → xs ≡ x ∷ [] → EndsWith v.seen w.seen v.name x)
      × (w.got ≡ got_by v.name w.seen)
      × (v.owns ≡ true → IsPrefix (trail_tickets w.seen) v.put)

  -- a trail that begins with all that was seen has every ticket that was put
  abbrev pub AllGone : Hand T → Type 0
  AllGone v = (trail : List (ℕ × T)) × IsPrefix v.seen trail × (v.put ≡ trail_tickets trail) × (v.got ≡ got_by v.name trail) × NamedBelow v.given trail

  -- at one moment the trail had every ticket that was put
  abbrev pub Bare : Hand T → Type 0
  Bare v = (trail : List (ℕ × T)) × (put : List T) × IsPrefix v.seen trail × (put ≡ trail_tickets trail) × (v.got ≡ got_by v.name trail)

  -- the tickets that were put, of which some are in the deque
  abbrev pub Tallies : Hand T → List T → Type 0
  Tallies v items =
      (trail : List (ℕ × T)) × (v.put ≡ trail_tickets trail ++ items) × (v.got ≡ got_by 0 trail) × IsPrefix v.seen trail
      × (opened : ℕ) × (opened + length v.back ≡ v.given) × AreHands opened v.back trail × NamedBelow v.given trail

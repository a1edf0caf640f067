-- The trail of a deque: each ticket that has left it, in order, with the name of the one who got it.
use Rattle.std.specs.Prelude.{◌≡◌, ℕ, ◌+◌, ◌<◌, ◌==◌, cond, List, [], ◌∷◌, ◌++◌, map, length}
use mathlib.Core.List.{IsPrefix}

module _ {T : Type 0} where
  -- the tickets of a trail
  abbrev pub trail_tickets : List (ℕ × T) → List T
  trail_tickets trail = map (λ e. e.1) trail

  -- the ticket of an entry, if this name got it
  abbrev pub own : ℕ → ℕ × T → List T
  own name e = cond (name == e.0) (e.1 ∷ []) []

  -- what one name got, in order
  abbrev pub got_by : ℕ → List (ℕ × T) → List T
  got_by name [] = []
  got_by name (e ∷ es) = own name e ++ got_by name es

  -- all names are below n
  abbrev pub NamedBelow : ℕ → List (ℕ × T) → Type 0
  NamedBelow n [] = Unit {0}
  NamedBelow n (e ∷ es) = (e.0 < n) × NamedBelow n es

  -- the hands from a name on, each with the tickets that it got and the beginning of the trail that it saw
  abbrev pub AreHands : ℕ → List (List T × List (ℕ × T)) → List (ℕ × T) → Type 0
  AreHands name [] trail = Unit {0}
  AreHands name (h ∷ hs) trail = (h.0 ≡ got_by name trail) × IsPrefix h.1 trail × AreHands (name + 1) hs trail

  -- the trail goes on behind all that was seen, and ends with a ticket that this name got
  abbrev pub EndsWith : List (ℕ × T) → List (ℕ × T) → ℕ → T → Type 0
  EndsWith old new name x = (between : List (ℕ × T)) × (new ≡ (old ++ between) ++ (name, x) ∷ [])

  -- one trail has every ticket that left: these are the first of those that were put, and the others are left, in order. Each of them went to one of the hands, which has its tickets in the order of the trail, and had seen a beginning of it
  abbrev pub IsDealt : List T → List (List T × List (ℕ × T)) → List T → Type 0
  IsDealt put hands left =
      (trail : List (ℕ × T)) × (put ≡ trail_tickets trail ++ left) × AreHands 0 hands trail × NamedBelow (length hands) trail

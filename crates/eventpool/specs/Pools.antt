-- The ends of a pool of n workers, and what is known once they are back.
use Rattle.std.specs.Prelude.{◌≡◌, ℕ, zero, suc, ◌+◌, ◌-◌, ◌<◌, ◌≤◌, cond, ltb, List, [], ◌∷◌, map, length, Some, slice_get, slice_index_or}
use Rattle.std.specs.Global.{Vec}
use Rattle.eventpool.specs.Ends.{Owning, Stealing, DequeId, thief_card}
use Rattle.eventpool.specs.DequeTrail.{IsDealt}

-- what an end got, and the beginning of the trail that it saw
abbrev pub EndHistory : Type 0 → Type 0
EndHistory T = List T × List (ℕ × T)

-- the number of the deque that x names, counting round from n on: x is below twice n
abbrev pub around : ℕ → ℕ → ℕ
around n x = cond (ltb x n) x (x - n)

-- how many tickets of a pool were put, taken, stolen and left
pub record PoolCounts : Type 0 where
  pub puts : ℕ
  pub takes : ℕ
  pub steals : ℕ
  pub left : ℕ

module _ {T : Type 0} where
  -- the thieves of the worker w
  abbrev pub row_of : List (Vec (Stealing T)) → ℕ → List (Stealing T)
  row_of rows w = slice_index_or (map (λ (v : Vec (Stealing T)). v.items) rows) w []

  -- what the i-th thief of a row got and saw
  abbrev pub end_history_in : List (Stealing T) → ℕ → EndHistory T
  end_history_in row i = slice_index_or (map (λ (t : Stealing T). (t.stolen, t.seen)) row) i ([], [])

  -- the histories of the thieves of the deque d with the c last names: the thief of the name n - c is in the row of the worker c places on
  abbrev pub end_histories_back : List (Vec (Stealing T)) → ℕ → ℕ → ℕ → List (EndHistory T)
  end_histories_back rows n d zero = []
  end_histories_back rows n d (suc c) = end_history_in (row_of rows (around n (d + suc c))) (n - suc c - 1) ∷ end_histories_back rows n d c

  -- the histories of the deque d: its owner's, and its thieves' by rising name
  abbrev pub end_histories_of : List (Vec (Stealing T)) → ℕ → ℕ → Owning T → List (EndHistory T)
  end_histories_of rows n d o = (o.taken, o.seen) ∷ end_histories_back rows n d (n - 1)

  -- the i-th thief of the worker w is that of the deque i + 1 places on, and has the name i + 1
  abbrev pub IsRow : List (Owning T) → ℕ → List (Stealing T) → Type 0
  IsRow owners w row =
      (length row + 1 ≡ length owners)
      × ((i : ℕ) (t : Stealing T) → slice_get row i ≡ Some t → (t.name ≡ i + 1) × ((o : Owning T) → slice_get owners (around (length owners) (w + (i + 1))) ≡ Some o → t.deque ≡ o.deque))

  -- the ends are all ends of one pool
  abbrev pub IsPool : List (Owning T) → List (Vec (Stealing T)) → Type 0
  IsPool owners rows =
      (0 < length owners) × (length owners ≤ 16) × (length rows ≡ length owners)
      × ((d : ℕ) (o : Owning T) → slice_get owners d ≡ Some o → (o.given ≡ length owners) × (o.back ≡ []))
      × ((w : ℕ) → w < length owners → IsRow owners w (row_of rows w))

  -- which ends the rows have
  abbrev pub cards_of : List (Vec (Stealing T)) → List (List (DequeId × ℕ))
  cards_of rows = map (λ (v : Vec (Stealing T)). map thief_card v.items) rows

  -- nothing was put, taken or stolen yet
  abbrev pub IsUnused : List (Owning T) → List (Vec (Stealing T)) → Type 0
  IsUnused owners rows =
      ((d : ℕ) (o : Owning T) → slice_get owners d ≡ Some o → (o.put ≡ []) × (o.taken ≡ []) × (o.seen ≡ []))
      × ((w i : ℕ) (t : Stealing T) → slice_get (row_of rows w) i ≡ Some t → (t.stolen ≡ []) × (t.seen ≡ []))

  -- every ticket that was put into a deque went to one of its ends, once, or is left in it
  abbrev pub AllDealt : List (Owning T) → List (Vec (Stealing T)) → List (List T) → Type 0
  AllDealt owners rows left =
      (length left ≡ length owners)
      × ((d : ℕ) (o : Owning T) → slice_get owners d ≡ Some o → IsDealt o.put (end_histories_of rows (length owners) d o) (slice_index_or left d []))

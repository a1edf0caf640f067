-- A pool that is being made.
use Rattle.std.specs.Prelude.{◌≡◌, ℕ, ◌+◌, ◌-◌, ◌<◌, ◌≤◌, List, [], length, Some, slice_get}
use Rattle.std.specs.Global.{Vec}
use Rattle.eventpool.specs.Ends.{Owning, Stealing}
use Rattle.eventpool.specs.Pools.{around, row_of}

module _ {T : Type 0} where
  -- no ticket was put yet, and no thief came back
  abbrev pub IsUntouched : Owning T → Type 0
  IsUntouched o = (o.put ≡ []) × (o.taken ≡ []) × (o.seen ≡ []) × (o.back ≡ [])

  -- n owners and n empty rows
  abbrev pub IsBegunPool : ℕ → List (Owning T) → List (Vec (Stealing T)) → Type 0
  IsBegunPool n owners rows =
      (length owners ≡ n) × (length rows ≡ n)
      × ((d : ℕ) (o : Owning T) → slice_get owners d ≡ Some o → IsUntouched o × (o.given ≡ 1))
      × ((w : ℕ) → row_of rows w ≡ [])

  -- the thief i of the worker j
  abbrev pub IsThiefOf : ℕ → List (Owning T) → ℕ → ℕ → Stealing T → Type 0
  IsThiefOf n owners j i t =
      (t.name ≡ i + 1) × (t.stolen ≡ []) × (t.seen ≡ [])
      × ((o : Owning T) → slice_get owners (around n (j + (i + 1))) ≡ Some o → t.deque ≡ o.deque)

  -- each row has c thieves, and those below w one more
  abbrev pub IsArmed : ℕ → ℕ → ℕ → List (Owning T) → List (Vec (Stealing T)) → Type 0
  IsArmed n c w owners rows =
      (length owners ≡ n) × (length rows ≡ n)
      × ((j : ℕ) → j < n → (w ≤ j → length (row_of rows j) ≡ c) × (j < w → length (row_of rows j) ≡ c + 1))
      × ((j i : ℕ) (t : Stealing T) → slice_get (row_of rows j) i ≡ Some t → IsThiefOf n owners j i t)
      × ((d : ℕ) (o : Owning T) → slice_get owners d ≡ Some o
      → IsUntouched o × (w ≤ around n (d + (n - 1 - c)) → o.given ≡ c + 1) × (around n (d + (n - 1 - c)) < w → o.given ≡ c + 2))

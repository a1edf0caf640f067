-- The first event of a kind among those that are active.
use Rattle.std.specs.Prelude.{◌≡◌, ℕ, zero, suc, Bool, false, true, List, [], ◌∷◌, Some}
use Rattle.logic4.specs.Vector.{Vector}
use Rattle.model.specs.States.{Action, Event}
use Rattle.model.specs.Runs.{action_in}

-- the first of some events whose action passes a test stands at a place
abbrev pub IsFirstAt : (Action → Bool) → List Event → ℕ → Type 0
IsFirstAt test [] at = ⊥
IsFirstAt test (e ∷ es) zero = test e.1 ≡ true
IsFirstAt test (e ∷ es) (suc at) = (test e.1 ≡ false) × IsFirstAt test es at

-- the event with a number updates a register of a class
abbrev pub HasClassAt : (ℕ → ℕ) → ℕ → List Event → ℕ → Type 0
HasClassAt class c events number =
    (r : ℕ) × (v : Vector) × (action_in events number ≡ Some (Action.Update r v)) × (class r ≡ c)

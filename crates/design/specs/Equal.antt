-- When process states are the same.
use Rattle.std.specs.Prelude.{◌≡◌, ◌↔◌, ℕ}
use Rattle.design.specs.declared.code.ProcState.{ProcState}
use Rattle.design.specs.Compiled.{Compiled}
use Rattle.design.specs.DesignInvariant.{remainder_of_state, IsStateOf}

-- two states of processes are the same just where they are of the same process and stand for the same remainder
abbrev pub StatesAreEqual : Type 0
StatesAreEqual = (code : Compiled) (p q : ℕ) (s t : ProcState) → IsStateOf code p s → IsStateOf code q t
    → ((s ≡ t) ↔ ((p ≡ q) × (remainder_of_state code s ≡ remainder_of_state code t)))

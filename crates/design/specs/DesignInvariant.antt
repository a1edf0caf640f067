-- What the layers above are told of a design.
use Rattle.std.specs.Prelude.{ℕ, ◌<◌, List, [], ◌∷◌, ◌++◌, length, Option, Some, None}
use Rattle.logic4.specs.Vector.{Vector}
use Rattle.model.specs.Design.{Trigger}
use Rattle.model.specs.Turns.{Remainder, Set}
use Rattle.design.specs.declared.code.ProcState.{ProcState}
use Rattle.design.specs.Fits.{FitsRegister}
use Rattle.design.specs.CodePlaces.{remainder_at, IsPlaceOf}
use Rattle.design.specs.Compiled.{Compiled, design_of}

-- the assignment left over, if there is one
abbrev pub pending_part : Option (ℕ × Vector) → Remainder
pending_part None = []
pending_part (Some w) = Set w.0 w.1 ∷ []

-- the remainder that a process state stands for
abbrev pub remainder_of_state : Compiled → ProcState → Remainder
remainder_of_state code state = pending_part state.pending ++ remainder_at (design_of code) state.place

-- the triggers of each event control, by its number
abbrev pub controls_of : Compiled → List (List Trigger)
controls_of code = code.controls

-- an assignment left over is to a declared register, and of its width
abbrev pub IsPending : List ℕ → Option (ℕ × Vector) → Type 0
IsPending widths None = Unit {0}
IsPending widths (Some w) = FitsRegister widths w.0 w.1

-- a state of the process with number p
pub record IsStateOf (code : Compiled) (p : ℕ) (state : ProcState) : Type 0 where
  pub process : p < length code.processes
  pub place : IsPlaceOf (design_of code) p state.place
  pub pending : IsPending code.widths state.pending

-- What one observed text says of the registers of a design's journals.
use Rattle.std.specs.Prelude.{◌≡◌, ℕ, ◌≤◌, false, List, [], Some}
use Rattle.model.specs.declared.entry.Entry.{Entry}
use Rattle.model.specs.Design.{Design}
use Rattle.model.specs.States.{State}
use Rattle.model.specs.Runs.{Effect, last_time}
use Rattle.looseruns.specs.ObservedJournals.{observed_text}
use Rattle.looseruns.specs.RegisterSights.{HaveSameRegisters, PassesBehind}
use Rattle.observers.specs.declared.observing.Observing.{Observing}
use Rattle.observers.specs.declared.observing.Observing.TheVariants.{Lines, Registers}
use Rattle.observers.specs.Observers.{observer_of}

-- more than lines is compared
abbrev pub SeesRegisters : Observing → Type 0
SeesRegisters Lines = ⊥
SeesRegisters (Registers registers) = Unit {0}

-- the registers whose values are compared
abbrev pub compared_registers : Observing → List ℕ
compared_registers Lines = []
compared_registers (Registers registers) = registers.items

-- Where two lawful journals have one text before an observer of registers, time passes in the one wherever it passes in the other, with the
-- same values of the registers.
abbrev pub OneTextTellsRegisters : Design → Type 0
OneTextTellsRegisters design =
    (observing : Observing) (one other : List Entry) (text : List ℕ) (front : List Entry) (e : Effect) → SeesRegisters observing
    → observed_text design (observer_of observing) one ≡ Some text → observed_text design (observer_of observing) other ≡ Some text
    → PassesBehind design one front e
    → (front' : List Entry) × (f : Effect) × PassesBehind design other front' f × HaveSameRegisters (compared_registers observing) e.state f.state

-- Where the same is seen of two states, in one of which the run hasn't finished, they have the same values of the registers.
abbrev pub OneSightTellsRegisters : Type 0
OneSightTellsRegisters =
    (observing : Observing) (s t : State) → SeesRegisters observing → s.time ≤ last_time → t.time ≤ last_time → s.finished ≡ false
    → observer_of observing s ≡ observer_of observing t → HaveSameRegisters (compared_registers observing) s t

-- An observer of the time and of some registers.
use Rattle.std.specs.Prelude.{◌≡◌, ℕ, List, [], ◌∷◌, ◌++◌, flat_map, decimal, if◌then◌else◌}
use Rattle.logic4.specs.Display.{binary_text}
use Rattle.model.specs.Expressions.{Store, value_of}
use Rattle.model.specs.declared.entry.Entry.{Entry}
use Rattle.model.specs.Design.{Design}
use Rattle.looseruns.specs.ObservedJournals.{Observer, observed_text}
use Rattle.looseruns.specs.ObservedMoves.{SeesAlike}
use Rattle.looseruns.specs.ObservedEnding.{SeesOneFinish}

-- the line of a register: its digits, the most significant first
abbrev pub seen_register_line : Store → ℕ → List ℕ
seen_register_line store r = binary_text (value_of store r) ++ 10 ∷ []

-- The byte with which what is seen begins. No printed line of ASCII has it, so that an observed text can be read back.
abbrev pub sight_mark : ℕ
sight_mark = 128

-- the mark, a line of the time in decimal, and then one of each of these registers
abbrev pub seen_registers : List ℕ → Observer
seen_registers registers s = sight_mark ∷ decimal s.time ++ 10 ∷ flat_map (λ r. seen_register_line s.store r) registers

-- what an observer sees of a state in which the run hasn't finished, and nothing where it has
abbrev pub seen_unless_finished : Observer → Observer
seen_unless_finished observe s = if s.finished then [] else observe s

-- the time and the registers are seen alike in states that are alike
abbrev pub RegistersAreSeenAlike : Type 0
RegistersAreSeenAlike = (registers : List ℕ) → SeesAlike (seen_registers registers)

-- an observer of states in which the run hasn't finished sees the same of alike states where the observer does, and of all finished ones
abbrev pub UnfinishedAreSeenAlike : Type 0
UnfinishedAreSeenAlike =
    (observe : Observer) → (SeesAlike observe → SeesAlike (seen_unless_finished observe)) × SeesOneFinish (seen_unless_finished observe)

-- the observed texts of journals are the same with it, since no time passes where a run has finished
abbrev pub UnfinishedTextIsText : Type 0
UnfinishedTextIsText =
    (design : Design) (observe : Observer) (journal : List Entry)
    → observed_text design (seen_unless_finished observe) journal ≡ observed_text design observe journal

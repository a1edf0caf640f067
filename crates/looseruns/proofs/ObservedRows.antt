-- reg a; initial a=1'b0; initial a=1'b1; initial #5; Whichever turn comes first, nothing is printed, and an observer of the register sees which.
use Rattle.std.proofs.Common.{◌≡◌, ℕ, false, List, [], ◌∷◌, ◌++◌, codes, decimal, refl, ap, Some}
use Rattle.std.proofs.lemmas.List.{append-nil}
use Rattle.logic4.specs.declared.digit.Digit.{Digit}
use Rattle.logic4.specs.declared.digit.Digit.TheVariants.{Zero, One}
use Rattle.model.specs.declared.entry.Entry.{Entry}
use Rattle.model.specs.declared.entry.Entry.TheVariants.{Advance}
use Rattle.model.specs.declared.entry.Entry.TheVariants as entries
use Rattle.model.specs.Syntax.{Literal}
use Rattle.model.specs.Design.{Design, Process, Statement, Assign, Delay, End, Then}
use Rattle.model.specs.Turns.{turn_within}
use Rattle.model.specs.Runs.{lines}
use Rattle.loose.specs.declared.transition.LooseTransition.{LooseTransition}
use Rattle.loose.specs.declared.transition.LooseTransition.TheVariants.{Change}
use Rattle.loose.specs.declared.transition.LooseTransition.TheVariants as transitions
use Rattle.looseruns.specs.LooseRuns.{text_of_moves}
use Rattle.looseruns.specs.ObservedJournals.{Observer, observed_text}
use Rattle.looseruns.specs.ObservedRuns.{observed_text_of_moves}
use Rattle.looseruns.specs.RegisterObserver.{sight_mark, seen_registers}

abbrev initial : Statement → Process
initial s = record { repeats = false; body = Then s End }

abbrev set : Digit → Statement
set d = Assign 0 (Literal (d ∷ []))

abbrev pub two_writers : Design
two_writers = record { widths = 1 ∷ []; processes = initial (set Zero) ∷ initial (set One) ∷ initial (Delay 5 End) ∷ [] }

-- the turns of all processes, and then time passes
abbrev in_order : List Entry
in_order = entries.Turn 0 ∷ entries.Turn 1 ∷ entries.Turn 2 ∷ Advance 5 ∷ []

abbrev turned : List Entry
turned = entries.Turn 1 ∷ entries.Turn 0 ∷ entries.Turn 2 ∷ Advance 5 ∷ []

-- the same by transitions
abbrev moved : List LooseTransition
moved = transitions.Process 0 ∷ transitions.Process 1 ∷ transitions.Process 2 ∷ Change (Advance 5) ∷ []

-- what is seen of the register
abbrev register : Observer
register = seen_registers (0 ∷ [])

-- the line of time 0, and that of the register
abbrev seen_with : List ℕ → List ℕ
seen_with digits = sight_mark ∷ decimal 0 ++ (10 ∷ digits ++ 10 ∷ [])

pub no_lines : (lines two_writers in_order ≡ Some []) × (lines two_writers turned ≡ Some [])
unfolding turn_within
no_lines = (refl, refl)

pub both_seen : (observed_text two_writers register in_order ≡ Some (seen_with (codes "1"))) × (observed_text two_writers register turned ≡ Some (seen_with (codes "0")))
unfolding turn_within
both_seen = (ap Some (append-nil (seen_with (codes "1"))), ap Some (append-nil (seen_with (codes "0"))))

abbrev time_line : List ℕ
time_line = sight_mark ∷ decimal 0 ++ 10 ∷ []

-- an observer of the time alone sees no difference
pub time_seen : (observed_text two_writers (seen_registers []) in_order ≡ Some time_line) × (observed_text two_writers (seen_registers []) turned ≡ Some time_line)
unfolding turn_within
time_seen = (ap Some (append-nil time_line), ap Some (append-nil time_line))

-- loose runs are seen as journals are
pub moved_seen : (text_of_moves (λ r. r) two_writers moved ≡ []) × (observed_text_of_moves (λ r. r) two_writers register moved ≡ seen_with (codes "1"))
unfolding turn_within
moved_seen = (refl, append-nil (seen_with (codes "1")))

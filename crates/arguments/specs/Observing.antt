-- What the words of a search for races ask to observe.
use Rattle.std.specs.Prelude.{◌≡◌, ◌≢◌, ◌++◌, List, ℕ, Option, Some, None, codes}
use Rattle.arguments.specs.declared.observed.Observed.{Observed}
use Rattle.arguments.specs.declared.observed.Observed.TheVariants as observed

-- a word asks to observe this
abbrev pub Observes : List ℕ → Observed → Type 0
Observes text observed.Lines = text ≡ codes "lines"
Observes text observed.LinesAtTimes = text ≡ codes "lines-at-times"
Observes text observed.Registers = text ≡ codes "registers"
Observes text (observed.Named names) = text ≡ codes "registers=" ++ names.now

-- this is observed where a word for it is given, and the lines, in order, where none is
abbrev pub IsObserved : Option (List ℕ) → Observed → Type 0
IsObserved None o = o ≡ observed.Lines
IsObserved (Some text) o = Observes text o

-- a word is given that asks to observe nothing
abbrev pub ObservesNothing : Option (List ℕ) → Type 0
ObservesNothing given = (o : Observed) → IsObserved given o → ⊥

-- something else than the lines, in order, is observed
abbrev pub ObservesOther : Option (List ℕ) → Type 0
ObservesOther given = (o : Observed) × IsObserved given o × (o ≢ observed.Lines)

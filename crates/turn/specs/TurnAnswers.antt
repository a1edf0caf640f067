-- What a turn answers.
use Rattle.std.specs.Prelude.{◌≡◌, ℕ, List, [], length, Some, None}
use Rattle.std.specs.Option.{IsSomeAnd}
use Rattle.model.specs.Expressions.{Store}
use Rattle.model.specs.Turns.{short_turn}
use Rattle.design.specs.declared.code.ProcState.{ProcState}
use Rattle.design.specs.Compiled.{Compiled, design_of}
use Rattle.design.specs.DesignInvariant.{remainder_of_state, controls_of, IsStateOf}
use Rattle.turn.specs.declared.memory.Seen.{Seen}
use Rattle.turn.specs.declared.log.FillFault.{FillFault}
use Rattle.turn.specs.declared.log.FillFault.TheVariants.{TooLong, Memory}
use Rattle.turn.specs.declared.log.TurnFault.{TurnFault}
use Rattle.turn.specs.declared.log.TurnFault.TheVariants as long
use Rattle.turn.specs.Reads.{registers, AreDeclared, Agrees}
use Rattle.turn.specs.Partial.{long_turn_uses}
use Rattle.turn.specs.TurnLogs.{LogView, IsLogOf, LogFits}

-- The log is the short turn of the process, on every store that agrees with the reads, which are of declared registers. What is left is a state of the
-- process again, and each write and each nonblocking assignment is to a declared register, and of its width.
pub record IsTurnLog (code : Compiled) (state : ProcState) (now : ℕ) (log : LogView) : Type 0 where
  pub turn : (p : ℕ) → IsStateOf code p state → (store : Store) → length store ≡ length code.widths → Agrees log.reads store
      → IsSomeAnd (short_turn (design_of code) p (remainder_of_state code state) store now) (IsLogOf (remainder_of_state code) (controls_of code) log)
  pub declared : (p : ℕ) → IsStateOf code p state → AreDeclared (length code.widths) log.reads
  pub next : (p : ℕ) → IsStateOf code p state → IsStateOf code p log.next
  pub fits : (p : ℕ) → IsStateOf code p state → LogFits code.widths log

-- where a turn is too long, no store that agrees with the reads so far gives the process a short turn, and on each the reads are
-- what as many counted steps as a turn may have use, in the order of first use
abbrev pub IsNoTurn : Compiled → ProcState → ℕ → List (ℕ × Seen) → FillFault → Type 0
IsNoTurn code state now reads TooLong =
    (p : ℕ) → IsStateOf code p state
    → AreDeclared (length code.widths) reads
    × ((store : Store) → length store ≡ length code.widths → Agrees reads store
    → short_turn (design_of code) p (remainder_of_state code state) store now ≡ None)
    × ((store : Store) → length store ≡ length code.widths → Agrees reads store
    → long_turn_uses (design_of code) p (remainder_of_state code state) store now ≡ Some (registers reads))
IsNoTurn code state now reads Memory = Unit {0}

-- what was read of a turn that is too long
abbrev pub reads_so_far : TurnFault → List (ℕ × Seen)
reads_so_far (long.TooLong reads) = reads.entries
reads_so_far long.Memory = []

-- so it is with a turn that is too long, and gives its reads
abbrev pub IsNoRun : Compiled → ProcState → ℕ → TurnFault → Type 0
IsNoRun code state now (long.TooLong reads) = IsNoTurn code state now reads.entries TooLong
IsNoRun code state now long.Memory = Unit {0}

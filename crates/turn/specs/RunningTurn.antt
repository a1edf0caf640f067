-- A turn under way, and what single statements do to it.
use Rattle.std.specs.Prelude.{◌≡◌, ℕ, zero, suc, ◌+◌, List, [], ◌∷◌, ◌++◌, Option, Some, None, replicate, slice_set}
use Rattle.std.specs.String.{string_bytes}
use Rattle.logic4.specs.declared.digit.Truth.{Truth}
use Rattle.logic4.specs.declared.digit.Truth.TheVariants.{False, True, Unknown}
use Rattle.logic4.specs.Vector.{Vector}
use Rattle.logic4.specs.Display.{shown}
use Rattle.design.specs.declared.code.Op.{Op}
use Rattle.design.specs.declared.code.LinePiece.{LinePiece}
use Rattle.design.specs.declared.code.LinePiece.TheVariants as pieces
use Rattle.design.specs.declared.code.ProcState.{ProcState}
use Rattle.design.specs.ExpressionSteps.{span_of}
use Rattle.turn.specs.declared.log.Nba.{Nba}
use Rattle.turn.specs.declared.log.Suspend.{Suspend}
use Rattle.turn.specs.declared.log.Suspend.TheVariants.{Inactive, Until}
use Rattle.turn.specs.declared.memory.Seen.{Seen}
use Rattle.turn.specs.declared.running_turn.RunningTurn.{RunningTurn}
use Rattle.turn.specs.Evaluate.{Evaluates}

-- a turn under way, as plain lists
pub record Status : Type 0 where
  pub state : ProcState
  pub known : List (Option Vector)
  pub reads : List (ℕ × Seen)
  pub writes : List (ℕ × Vector)
  pub nbas : List Nba
  pub lines : List ℕ
  pub strobes : List ℕ

-- the plain lists of the program's
abbrev pub turn_status_of : RunningTurn → Status
turn_status_of p = record {
  state = p.state;
  known = p.memory.known;
  reads = p.memory.reads.entries;
  writes = p.writes;
  nbas = p.nbas.items;
  lines = string_bytes p.lines;
  strobes = p.strobes.items;
}

-- a turn that begins, over this many registers
abbrev pub fresh : ProcState → ℕ → Status
fresh state registers = record { state = state; known = replicate registers None; reads = []; writes = []; nbas = []; lines = []; strobes = [] }

-- what is to run is at this place
abbrev pub at : Status → ℕ → Status
at s next = record s { state = record { place = next; pending = None } }

-- a register gets a value, which is known from now on
abbrev pub writing : Status → ℕ → Vector → ℕ → Status
writing s r v next =
    record s { state = record { place = next; pending = None }; known = slice_set s.known r (Some v); writes = s.writes ++ (r, v) ∷ [] }

-- an assignment is left over
abbrev pub holding : Status → ℕ → Vector → ℕ → Status
holding s r v next = record s { state = record { place = next; pending = Some (r, v) } }

-- a nonblocking assignment is made
abbrev pub delaying : Status → Nba → ℕ → Status
delaying s nba next = record s { state = record { place = next; pending = None }; nbas = s.nbas ++ nba ∷ [] }

-- a $strobe is met
abbrev pub strobing : Status → ℕ → Status
strobing s next = record s { state = record { place = next; pending = None }; strobes = s.strobes ++ s.state.place ∷ [] }

-- bytes are printed
abbrev pub printing : Status → List ℕ → Status
printing s bytes = record s { lines = s.lines ++ bytes }

-- the value of an expression
abbrev pub Valued : List Op → Status → Vector → Status → Type 0
Valued ops s v s' = Evaluates ops s.known s.reads v s'.known s'.reads × (s' ≡ record s { known = s'.known; reads = s'.reads })

-- the value of an expression, and the turn after it
abbrev pub WithValue : List Op → Status → (Vector → Status → Type 0) → Type 0
WithValue ops s P = (v : Vector) × ((m : Status) × (Valued ops s v m × P v m))

-- a piece of a line is printed (17.1.1)
abbrev pub PrintsPiece : List Op → LinePiece → Status → Status → Type 0
PrintsPiece ops (pieces.Byte b) s s' = s' ≡ printing s (b ∷ [])
PrintsPiece ops (pieces.Value conversion span) s s' =
    WithValue (span_of ops span) s (λ v m. s' ≡ printing m (shown conversion v))

-- the pieces of a line are printed, in order
abbrev pub PrintsPieces : List Op → List LinePiece → Status → Status → Type 0
PrintsPieces ops [] s s' = s' ≡ s
PrintsPieces ops (p ∷ ps) s s' = (m : Status) × (PrintsPiece ops p s m × PrintsPieces ops ps m s')

-- what a delay waits for
abbrev pub wait_for : ℕ → ℕ → Suspend
wait_for now zero = Inactive
wait_for now (suc delay) = Until (now + suc delay)

-- where a condition leads
abbrev pub chosen_place : Truth → ℕ → ℕ → ℕ
chosen_place True taken missed = taken
chosen_place False taken missed = missed
chosen_place Unknown taken missed = missed

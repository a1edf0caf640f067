-- Combinational processes, and the phases in which they settle.
use Rattle.std.specs.Prelude.{◌≡◌, ◌≢◌, ℕ, ◌<◌, ◌≤◌, Bool, true, false, ◌==◌, List, [], ◌⊎◌, map, length, Some, slice_index_or}
use Rattle.std.specs.List.{list_any}
use Rattle.model.specs.declared.tree.Change.TheVariants.{Any}
use Rattle.model.specs.declared.entry.Entry.{Entry}
use Rattle.model.specs.declared.entry.Entry.TheVariants.{Turn, Update, ActivateInactive, ActivateNba, ActivateMonitor, Advance}
use Rattle.model.specs.Design.{Design, Trigger}
use Rattle.model.specs.Expressions.{Store, value_of}
use Rattle.model.specs.Turns.{Remainder, OnChange, contains, short_turn}
use Rattle.model.specs.Turns as turns
use Rattle.model.specs.States.{Continuation, State}
use Rattle.model.specs.Laws.{evaluations_in}
use Rattle.orders.specs.Alike.{updates_in}
use Rattle.orders.specs.Apart.{AgreeOn, all_given, written_by}

-- A block of combinational logic, as in `always @(a or b) y = a & b;`: what its process has left to run while it waits, the
-- registers that it waits for, and the registers that it gives values.
pub record Block : Type 0 where
  pub rest : Remainder
  pub inputs : List ℕ
  pub outputs : List ℕ

-- what the process of a block waits for: any change of an input (9.7.2)
abbrev pub triggers : Block → List Trigger
triggers block = map (λ r. (Any, r)) block.inputs

-- A turn computes a block: it reads no register but the inputs before it writes it, writes the outputs, each of them, and
-- nothing else, does nothing besides, and waits again as before.
abbrev pub ComputesOutputs : Block → turns.Turn → Type 0
ComputesOutputs block turn =
    record {
      reads : (r : ℕ) → contains turn.uses r ≡ true → contains block.inputs r ≡ true;
      writes : (r : ℕ) → contains (written_by turn) r ≡ true → contains block.outputs r ≡ true;
      all : (r : ℕ) → contains block.outputs r ≡ true → contains (written_by turn) r ≡ true;
      nbas : turn.nbas ≡ [];
      lines : turn.lines ≡ [];
      strobes : turn.strobes ≡ [];
      finish : turn.finish ≡ false;
      rest : turn.rest ≡ block.rest;
      wait : turn.wait ≡ OnChange (triggers block);
    }

-- A process is combinational, with this block: whatever the values of the registers and the time, it has a short turn behind its
-- wait, which computes the block; and no output is an input.
abbrev pub IsBlock : Design → ℕ → Block → Type 0
IsBlock design p block =
    record {
      turns : (store : Store) (now : ℕ) → (turn : turns.Turn) × (short_turn design p block.rest store now ≡ Some turn) × ComputesOutputs block turn;
      apart : (r : ℕ) → contains block.outputs r ≡ true → contains block.inputs r ≡ false;
    }

-- an evaluation of the process is active
abbrev pub IsActive : State → ℕ → Type 0
IsActive s p = 1 ≤ evaluations_in p s.active

-- a process in a state
abbrev pub continuation_of : State → ℕ → Continuation
continuation_of s p = slice_index_or s.processes p (record { remainder = []; triggers = [] })

-- the turn of a block would leave every value as it is
abbrev pub IsConsistent : Design → State → ℕ → Block → Type 0
IsConsistent design s p block =
    (turn : turns.Turn) → short_turn design p block.rest s.store s.time ≡ Some turn → all_given s.store turn.writes ≡ s.store

-- the turn of a block is still to come
abbrev pub IsTurnPending : State → ℕ → Block → Type 0
IsTurnPending s p block = (evaluations_in p s.active ≡ 1) × (continuation_of s p ≡ record { remainder = block.rest; triggers = [] })

-- a block waits
abbrev pub IsBlockWaiting : State → ℕ → Block → Type 0
IsBlockWaiting s p block =
    (evaluations_in p s.active ≡ 0) × (continuation_of s p ≡ record { remainder = block.rest; triggers = triggers block })

-- a block waits, and its turn would leave every value as it is
abbrev pub HasSettled : Design → State → ℕ → Block → Type 0
HasSettled design s p block =
    (evaluations_in p s.active ≡ 0) × (continuation_of s p ≡ record { remainder = block.rest; triggers = triggers block })
    × IsConsistent design s p block

-- a block waits as it did in an earlier state of the same time, and the registers that it reads and writes have their values of then
abbrev pub IsUntouched : State → State → ℕ → Block → Type 0
IsUntouched start s p block =
    record {
      waits : IsBlockWaiting s p block;
      waited : IsBlockWaiting start p block;
      time : s.time ≡ start.time;
      registers : length s.store ≡ length start.store;
      inputs : AgreeOn block.inputs start.store s.store;
      outputs : AgreeOn block.outputs start.store s.store;
    }

-- a block is pending, or has settled, or is untouched since an earlier state
abbrev pub StandsSince : Design → State → State → ℕ → Block → Type 0
StandsSince design start s p block = IsTurnPending s p block ⊎ (HasSettled design s p block ⊎ IsUntouched start s p block)

-- an input of a block has another value in a state than in an earlier one
abbrev pub HasChangedInput : State → State → Block → Type 0
HasChangedInput start s block = (r : ℕ) × (contains block.inputs r ≡ true) × (value_of start.store r ≢ value_of s.store r)

-- Members settle between two states: each is pending in the first, or has settled there, or one of its inputs has another value in the
-- second.
abbrev pub SettleBetween : Design → List ℕ → (ℕ → Block) → State → State → Type 0
SettleBetween design members block start s =
    (p : ℕ) → contains members p ≡ true
    → (IsTurnPending start p (block p) ⊎ HasSettled design start p (block p)) ⊎ HasChangedInput start s (block p)

-- whether a process waits for a change of a register, of whatever kind
abbrev pub waits_for_register : Continuation → ℕ → Bool
waits_for_register x r = list_any (λ (t : Trigger). t.1 == r) x.triggers

-- the registers of the active updates
abbrev pub updated_in : State → List ℕ
updated_in s = map (λ u. u.0) (updates_in s.active)

-- a register is an output of one of these processes
abbrev pub IsOutput : List ℕ → (ℕ → Block) → ℕ → Type 0
IsOutput members block r = (p : ℕ) × (contains members p ≡ true) × (contains (block p).outputs r ≡ true)

-- A phase: the members are combinational processes, and only updates and turns of theirs are active. Each of them is pending, or waits.
-- No register is an output of two of them, nor an output that is updated. They stand in an order, in which each comes before those that
-- read its outputs. No other process waits for an output or for a register that is updated.
abbrev pub IsPhase : Design → State → List ℕ → (ℕ → Block) → (ℕ → ℕ) → Type 0
IsPhase design s members block rank =
    record {
      goes_on : s.finished ≡ false;
      inside : (p : ℕ) → IsActive s p → contains members p ≡ true;
      exist : (p : ℕ) → contains members p ≡ true → p < length s.processes;
      blocks : (p : ℕ) → contains members p ≡ true → IsBlock design p (block p);
      stands : (p : ℕ) → contains members p ≡ true → IsTurnPending s p (block p) ⊎ IsBlockWaiting s p (block p);
      single : (p q r : ℕ) → contains members p ≡ true → contains members q ≡ true → p ≢ q → contains (block p).outputs r ≡ true
          → contains (block q).outputs r ≡ false;
      updates : (r : ℕ) → contains (updated_in s) r ≡ true → (p : ℕ) → contains members p ≡ true → contains (block p).outputs r ≡ false;
      order : (p q r : ℕ) → contains members p ≡ true → contains members q ≡ true → contains (block p).outputs r ≡ true
          → contains (block q).inputs r ≡ true → rank p < rank q;
      others : (q r : ℕ) → contains members q ≡ false → contains (updated_in s) r ≡ true ⊎ IsOutput members block r
          → waits_for_register (continuation_of s q) r ≡ false;
    }

-- an entry takes an event, and changes no region
abbrev pub TakesEvent : Entry → Type 0
TakesEvent (Turn number) = Unit {0}
TakesEvent (Update number) = Unit {0}
TakesEvent ActivateInactive = ⊥
TakesEvent ActivateNba = ⊥
TakesEvent ActivateMonitor = ⊥
TakesEvent (Advance time) = ⊥

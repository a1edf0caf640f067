-- Combinational processes that settle from where a machine stood to where nothing is active.
use Rattle.std.specs.Prelude.{◌≡◌, ◌⊎◌, ℕ, true, List, [], length}
use Rattle.model.specs.Turns.{contains}
use Rattle.design.specs.Compiled.{design_of}
use Rattle.phases.specs.Phase.{IsActive, IsBlock, IsTurnPending, IsBlockWaiting, HasSettled, HasChangedInput, SettleBetween}
use Rattle.combinational.specs.declared.network.Network.{Network}
use Rattle.regions.specs.Machine.{MachineView, state_at}
use Rattle.settling.specs.declared.begin.Begin.{Begin}
use Rattle.settling.specs.Settling.{block_at}

-- What is kept of where a machine stood: the values of the registers, of which there are as many as its design has, and processes that
-- were active.
pub record IsBeginOf (start : MachineView) (begin : Begin) : Type 0 where
  pub values : begin.values ≡ start.values
  pub count : length begin.values ≡ length start.code.widths
  pub active : (p : ℕ) → contains begin.pending.items p ≡ true → IsActive (state_at start) p

-- From where it began so a machine has come to rest: nothing is active, and it is the same time still. Where it began, each of these members
-- was a combinational process, and pending, or waited.
pub record HasComeToRest (begin : Begin) (start end : MachineView) (network : Network) (members : List ℕ) : Type 0 where
  pub begins : IsBeginOf start begin
  pub blocks : (p : ℕ) → contains members p ≡ true → IsBlock (design_of start.code) p (block_at start.code network p)
  pub stands :
      (p : ℕ) → contains members p ≡ true
      → IsTurnPending (state_at start) p (block_at start.code network p) ⊎ IsBlockWaiting (state_at start) p (block_at start.code network p)
  pub code : start.code ≡ end.code
  pub time : (state_at end).time ≡ (state_at start).time
  pub over : (state_at end).active ≡ []

-- Wherever it began so, with members of which a process is one, that was pending there, or had settled, or one of its inputs has another
-- value.
abbrev pub HasSettledSince : Begin → MachineView → Network → ℕ → Type 0
HasSettledSince begin end network p =
    (start : MachineView) (members : List ℕ) → HasComeToRest begin start end network members → contains members p ≡ true
    → (IsTurnPending (state_at start) p (block_at start.code network p) ⊎ HasSettled (design_of start.code) (state_at start) p (block_at start.code network p))
    ⊎ HasChangedInput (state_at start) (state_at end) (block_at start.code network p)

-- wherever it began so with some members, these settle
abbrev pub HaveSettledSince : Begin → MachineView → Network → List ℕ → Type 0
HaveSettledSince begin end network members =
    (start : MachineView) → HasComeToRest begin start end network members
    → SettleBetween (design_of start.code) members (block_at start.code network) (state_at start) (state_at end)

-- What is found of a design's combinational processes.
use Rattle.std.specs.Prelude.{◌≡◌, ◌≢◌, ℕ, ◌<◌, true, false, List, Option, Some, slice_get, slice_index_or}
use Rattle.model.specs.declared.tree.Change.TheVariants.{Any}
use Rattle.model.specs.Design.{Trigger}
use Rattle.model.specs.Turns.{contains}
use Rattle.design.specs.Compiled.{Compiled, design_of}
use Rattle.design.specs.DesignInvariant.{controls_of}
use Rattle.design.specs.CodePlaces.{remainder_at}
use Rattle.phases.specs.Phase.{Block, triggers, IsBlock}
use Rattle.combinational.specs.declared.block.Logic.{Logic}
use Rattle.combinational.specs.declared.network.Network.{Network}

-- any change of a register
abbrev pub any_change : ℕ → Trigger
any_change r = (Any, r)

-- the block that was found
abbrev pub block_in : Compiled → Logic → Block
block_in code logic =
    record { rest = remainder_at (design_of code) logic.place; inputs = logic.inputs.items; outputs = logic.outputs.items }

-- the process is combinational, with this block, and waits by this event control
pub record HasLogic (code : Compiled) (p : ℕ) (logic : Logic) : Type 0 where
  pub block : IsBlock (design_of code) p (block_in code logic)
  pub control : slice_get (controls_of code) logic.control ≡ Some (triggers (block_in code logic))

-- the rank of a process
abbrev pub rank_in : List ℕ → ℕ → ℕ
rank_in ranks p = slice_index_or ranks p 0

-- No register is an output of both, and the first comes in rank before the second where that waits for an output of it.
pub record AreRanked (ranks : List ℕ) (p q : ℕ) (one other : Logic) : Type 0 where
  pub single : (r : ℕ) → contains one.outputs.items r ≡ true → contains other.outputs.items r ≡ false
  pub order : (r : ℕ) → contains one.outputs.items r ≡ true → contains other.inputs.items r ≡ true → rank_in ranks p < rank_in ranks q

-- the logic of each process, where some was found
abbrev pub AreLogics : Compiled → List (Option Logic) → Type 0
AreLogics code logics = (p : ℕ) (logic : Logic) → slice_get logics p ≡ Some (Some logic) → HasLogic code p logic

-- the logic of any two processes is apart
abbrev pub AllRanked : List ℕ → List (Option Logic) → Type 0
AllRanked ranks logics =
    (p q : ℕ) (one other : Logic) → p ≢ q → slice_get logics p ≡ Some (Some one) → slice_get logics q ≡ Some (Some other) → AreRanked ranks p q one other

-- The combinational processes of a design: for each process its logic, if some was found, and its rank.
pub record IsNetworkOf (code : Compiled) (found : Network) : Type 0 where
  pub each : AreLogics code found.logics.items
  pub apart : AllRanked found.ranks.items found.logics.items

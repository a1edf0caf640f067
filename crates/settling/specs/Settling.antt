-- Combinational processes of a network in a state, and processes that sleep while these are held.
use Rattle.std.specs.Prelude.{◌≡◌, ◌≢◌, ◌⊎◌, ℕ, ◌<◌, true, false, List, [], map, length, Option, Some, None, slice_get, slice_index_or}
use Rattle.std.specs.List.{All}
use Rattle.model.specs.Turns.{contains}
use Rattle.model.specs.States.{State}
use Rattle.model.specs.Laws.{evaluations_in}
use Rattle.design.specs.declared.code.ProcState.{ProcState}
use Rattle.design.specs.DesignInvariant.{remainder_of_state, controls_of, IsStateOf}
use Rattle.design.specs.Compiled.{Compiled, design_of}
use Rattle.phases.specs.Phase.{Block, continuation_of, IsBlock, IsTurnPending, IsBlockWaiting, HasSettled, waits_for_register, updated_in, IsOutput, IsPhase}
use Rattle.combinational.specs.declared.block.Logic.{Logic}
use Rattle.combinational.specs.declared.network.Network.{Network}
use Rattle.combinational.specs.Found.{block_in, rank_in}
use Rattle.regions.specs.declared.queue.Continuation.{Continuation}
use Rattle.regions.specs.Queue.{Core}
use Rattle.settling.specs.declared.sleepers.Sleeper.{Sleeper}
use Rattle.settling.specs.LogicStanding.{IsContinuedAt}

-- the block of logic, and none where there is no logic
abbrev pub block_or : Compiled → Option (Option Logic) → Block
block_or code (Some (Some logic)) = block_in code logic
block_or code _ = record { rest = []; inputs = []; outputs = [] }

-- the block of a process
abbrev pub block_at : Compiled → Network → ℕ → Block
block_at code network p = block_or code (slice_get network.logics.items p)

-- a process is combinational, and pending or waits
pub record IsMember (code : Compiled) (s : State) (network : Network) (p : ℕ) : Type 0 where
  pub logic : Logic
  pub found : slice_get network.logics.items p ≡ Some (Some logic)
  pub exists : p < length s.processes
  pub stands : IsTurnPending s p (block_in code logic) ⊎ IsBlockWaiting s p (block_in code logic)

-- each of these is
abbrev pub AreMembers : Compiled → State → Network → List ℕ → Type 0
AreMembers code s network members = (p : ℕ) → contains members p ≡ true → IsMember code s network p

-- a member goes on from this place; where it waits for nothing, it is pending
pub record IsMemberAt (code : Compiled) (core : Core) (s : State) (network : Network) (p : ℕ) (continuation : Continuation) : Type 0 where
  pub member : IsMember code s network p
  pub place : IsContinuedAt core p continuation.state
  pub pending : continuation.waits ≡ None → IsTurnPending s p (block_in code member.logic)

-- a process is combinational, and pending or settled
pub record IsPendingOrSettled (code : Compiled) (s : State) (network : Network) (p : ℕ) : Type 0 where
  pub member : IsMember code s network p
  pub settled : IsTurnPending s p (block_in code member.logic) ⊎ HasSettled (design_of code) s p (block_in code member.logic)

-- each of these is
abbrev pub ArePendingOrSettled : Compiled → State → Network → List ℕ → Type 0
ArePendingOrSettled code s network members = (p : ℕ) → contains members p ≡ true → IsPendingOrSettled code s network p

-- a state is a phase of these processes
abbrev pub IsPhaseOf : Compiled → State → Network → List ℕ → Type 0
IsPhaseOf code s network members = IsPhase (design_of code) s members (block_at code network) (rank_in network.ranks.items)

-- In a state these processes of a network may be held while others go on: the run isn't finished, and each of them is combinational, and
-- pending or waits. No register is an output of two of them, nor an output that is updated. They come in rank before those that read their
-- outputs.
pub record MayBeHeld (code : Compiled) (s : State) (network : Network) (members : List ℕ) : Type 0 where
  pub goes_on : s.finished ≡ false
  pub exist : (p : ℕ) → contains members p ≡ true → p < length s.processes
  pub blocks : (p : ℕ) → contains members p ≡ true → IsBlock (design_of code) p (block_at code network p)
  pub stands :
      (p : ℕ) → contains members p ≡ true
      → IsTurnPending s p (block_at code network p) ⊎ IsBlockWaiting s p (block_at code network p)
  pub single :
      (p q r : ℕ) → contains members p ≡ true → contains members q ≡ true → p ≢ q → contains (block_at code network p).outputs r ≡ true
      → contains (block_at code network q).outputs r ≡ false
  pub updates :
      (r : ℕ) → contains (updated_in s) r ≡ true → (p : ℕ) → contains members p ≡ true → contains (block_at code network p).outputs r ≡ false
  pub order :
      (p q r : ℕ) → contains members p ≡ true → contains members q ≡ true → contains (block_at code network p).outputs r ≡ true
      → contains (block_at code network q).inputs r ≡ true → rank_in network.ranks.items p < rank_in network.ranks.items q

-- the processes that sleep
abbrev pub sleeping : List Sleeper → List ℕ
sleeping sleepers = map (λ x. x.process) sleepers

-- a sleeper waits by its event control
abbrev pub WaitsBy : Compiled → State → Sleeper → Type 0
WaitsBy code s x = (continuation_of s x.process).triggers ≡ slice_index_or (controls_of code) x.control []

-- The sleepers are those processes but these members that wait for an output of a member. None of them has an active evaluation.
pub record AreSleepers (code : Compiled) (s : State) (network : Network) (members : List ℕ) (sleepers : List Sleeper) : Type 0 where
  pub others :
      (q r : ℕ) → contains members q ≡ false → contains (sleeping sleepers) q ≡ false → IsOutput members (block_at code network) r
      → waits_for_register (continuation_of s q) r ≡ false
  pub outside : (q : ℕ) → contains (sleeping sleepers) q ≡ true → contains members q ≡ false
  pub idle : (q : ℕ) → contains (sleeping sleepers) q ≡ true → evaluations_in q s.active ≡ 0
  pub wait : All (WaitsBy code s) sleepers

-- a process with logic goes on from this place behind its wait
pub record IsPlaceBehind (code : Compiled) (network : Network) (p : ℕ) (place : ProcState) : Type 0 where
  pub own : IsStateOf code p place
  pub rest : remainder_of_state code place ≡ (block_at code network p).rest

-- each of these processes is one of those
abbrev pub AreSomeOf : List ℕ → List ℕ → Type 0
AreSomeOf members others = (p : ℕ) → contains members p ≡ true → contains others p ≡ true

-- each of these registers has a list as an output of one of these processes
abbrev pub HaveOutputs : Network → List ℕ → List ℕ → Type 0
HaveOutputs network members registers =
    (p r : ℕ) (logic : Logic) → contains members p ≡ true → slice_get network.logics.items p ≡ Some (Some logic)
    → contains logic.outputs.items r ≡ true → contains registers r ≡ true

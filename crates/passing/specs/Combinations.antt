-- Turns on whatever values the inputs of a process may pass to.
use Rattle.std.specs.Prelude.{◌≡◌, ◌⊎◌, ℕ, Bool, true, if◌then◌else◌, List, map, length, Some}
use Rattle.std.specs.List.{All}
use Rattle.logic4.specs.Vector.{Vector}
use Rattle.model.specs.Expressions.{Store, value_of}
use Rattle.model.specs.Turns.{contains, short_turn}
use Rattle.model.specs.Turns as turns
use Rattle.orders.specs.Apart.{all_given}
use Rattle.design.specs.Compiled.{Compiled, design_of}
use Rattle.design.specs.declared.code.ProcState.{ProcState}
use Rattle.design.specs.DesignInvariant.{remainder_of_state, IsStateOf}
use Rattle.phases.specs.Phase.{Block, IsBlock}
use Rattle.footprints.specs.Footprints.{changes_made}
use Rattle.certificates.specs.declared.changes.NotedChange.{NotedChange}
use Rattle.combinational.specs.declared.network.Network.{Network}
use Rattle.settling.specs.Settling.{block_at}
use Rattle.heldways.specs.Passing.{Passing, HavePassed, AllPass, IsInCone}

-- two stores have the values that were chosen, the one those before, and the other those after
abbrev pub HaveChosenValues : List NotedChange → Store → Store → Type 0
HaveChosenValues chosen store other =
    All (λ c. (value_of store c.register ≡ c.before) × (value_of other c.register ≡ c.after)) chosen

-- the value of a choice: the one before, or that after
abbrev pub chosen_value : Bool → NotedChange → Vector
chosen_value is_after choice = if is_after then choice.after else choice.before

-- A store agrees, on the registers for which values were chosen, with each that has these: those before, or those after.
abbrev pub AgreesWithChosen : Bool → List NotedChange → Store → Type 0
AgreesWithChosen is_after chosen store =
    (other : Store) → All (λ c. value_of other c.register ≡ chosen_value is_after c) chosen → (r : ℕ)
    → contains (map (λ c. c.register) chosen) r ≡ true → value_of store r ≡ value_of other r

-- each of these inputs was chosen, or is among the rest
abbrev pub AreCovered : List ℕ → List NotedChange → List ℕ → Type 0
AreCovered inputs chosen rest =
    (r : ℕ) → contains inputs r ≡ true → (contains (map (λ c. c.register) chosen) r ≡ true) ⊎ (contains rest r ≡ true)

-- What the turns of a process on two stores change passes, each after the other: the first over the values of a start, the second over what
-- the first left.
abbrev pub PairPasses : Passing → Store → Store → turns.Turn → turns.Turn → Type 0
PairPasses passes values store turn next =
    AllPass passes (changes_made values turn.writes) × AllPass passes (changes_made (all_given store turn.writes) next.writes)

-- So do they on all stores that have the values chosen, and to which the rest of the inputs may pass.
abbrev pub PassFrom : Compiled → ProcState → Store → ℕ → Passing → List NotedChange → List ℕ → Type 0
PassFrom code place values now passes chosen rest =
    (p : ℕ) (block : Block) (store other : Store) (turn next : turns.Turn) → IsStateOf code p place → IsBlock (design_of code) p block
    → remainder_of_state code place ≡ block.rest → AreCovered block.inputs chosen rest → length store ≡ length values
    → length other ≡ length values → HaveChosenValues chosen store other → HavePassed passes rest values store
    → HavePassed passes rest store other → short_turn (design_of code) p block.rest store now ≡ Some turn
    → short_turn (design_of code) p block.rest other now ≡ Some next → PairPasses passes values store turn next

-- The outputs of one member pass through what they may be given, where it is combinational and they are in the cone.
abbrev pub MemberPasses : Compiled → Network → List ℕ → Store → ℕ → Passing → ℕ → Type 0
MemberPasses code network cone values now passes p =
    (store other : Store) (turn next : turns.Turn) → IsBlock (design_of code) p (block_at code network p)
    → IsInCone cone (block_at code network p) → length store ≡ length values
    → length other ≡ length values → HavePassed passes (block_at code network p).inputs values store
    → HavePassed passes (block_at code network p).inputs store other
    → short_turn (design_of code) p (block_at code network p).rest store now ≡ Some turn
    → short_turn (design_of code) p (block_at code network p).rest other now ≡ Some next → PairPasses passes values store turn next

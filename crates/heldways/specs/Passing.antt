-- Which values registers may pass to while processes are held: the moves of outputs, and processes that sleep through all of them.
use Rattle.std.specs.Prelude.{◌≡◌, ℕ, Bool, true, false, List, length, Some}
use Rattle.std.specs.List.{All}
use Rattle.logic4.specs.Vector.{Vector}
use Rattle.model.specs.Design.{Design, Trigger}
use Rattle.model.specs.Expressions.{Store, value_of}
use Rattle.model.specs.Turns.{contains, short_turn}
use Rattle.model.specs.Turns as turns
use Rattle.model.specs.States.{State, wakes}
use Rattle.model.specs.Laws.{evaluations_in}
use Rattle.orders.specs.Apart.{all_given}
use Rattle.phases.specs.Phase.{Block, continuation_of}
use Rattle.footprints.specs.Footprints.{RegisterChange, changes_made}
use Rattle.heldmoves.specs.WithoutHeld.{asleep_from}

-- a test for each register of two values: whether it may pass from the one to the other
abbrev pub Passing : Type 0
Passing = ℕ → Vector → Vector → Bool

-- A register may pass from a value to itself, and wherever it may pass to by way of a third.
pub record IsPassing (passes : Passing) : Type 0 where
  pub stays : (r : ℕ) (v : Vector) → passes r v v ≡ true
  pub goes_on : (r : ℕ) (u v w : Vector) → passes r u v ≡ true → passes r v w ≡ true → passes r u w ≡ true

-- each of these registers may pass from the value that it has in one store to that in another
abbrev pub HavePassed : Passing → List ℕ → Store → Store → Type 0
HavePassed passes registers store other =
    (r : ℕ) → contains registers r ≡ true → passes r (value_of store r) (value_of other r) ≡ true

-- each of these changes is one that its register may pass through
abbrev pub AllPass : Passing → List RegisterChange → Type 0
AllPass passes changes = All (λ c. passes c.register c.before c.after ≡ true) changes

-- each output of a block is in a cone
abbrev pub IsInCone : List ℕ → Block → Type 0
IsInCone cone block = (r : ℕ) → contains block.outputs r ≡ true → contains cone r ≡ true

-- The outputs in a cone pass through what they may be given: on whatever values the inputs of such a member may have passed to since a
-- start, the changes that its turn makes pass. It makes them of the values that the outputs have at the start, or that its turn gave them
-- on values from which its inputs may have passed to these.
pub record OutputsPass (design : Design) (start : Store) (now : ℕ) (members : List ℕ) (block : ℕ → Block) (cone : List ℕ) (passes : Passing) : Type 0 where
  pub first :
      (p : ℕ) (store : Store) (turn : turns.Turn) → contains members p ≡ true → IsInCone cone (block p) → length store ≡ length start
      → HavePassed passes (block p).inputs start store → short_turn design p (block p).rest store now ≡ Some turn
      → AllPass passes (changes_made start turn.writes)
  pub again :
      (p : ℕ) (store other : Store) (turn next : turns.Turn) → contains members p ≡ true → IsInCone cone (block p)
      → length store ≡ length start → length other ≡ length start → HavePassed passes (block p).inputs start store
      → HavePassed passes (block p).inputs store other → short_turn design p (block p).rest store now ≡ Some turn
      → short_turn design p (block p).rest other now ≡ Some next
      → AllPass passes (changes_made (all_given store turn.writes) next.writes)

-- none of these triggers stands for a change that passes
abbrev pub AreDeaf : Passing → List Trigger → Type 0
AreDeaf passes triggers =
    (r : ℕ) (old new : Vector) → passes r old new ≡ true → wakes triggers r old new ≡ false

-- Processes sleep through all that passes: none of them is a member, or has an active evaluation, or waits for a change that passes.
pub record SleepThrough (s : State) (members sleepers : List ℕ) (passes : Passing) : Type 0 where
  pub outside : (q : ℕ) → contains sleepers q ≡ true → contains members q ≡ false
  pub idle : (q : ℕ) → contains sleepers q ≡ true → evaluations_in q s.active ≡ 0
  pub deaf : (q : ℕ) → contains sleepers q ≡ true → AreDeaf passes (continuation_of s q).triggers

-- a state in which the sleepers wait for nothing
abbrev pub put_to_sleep : List ℕ → State → State
put_to_sleep sleepers s = record s { processes = asleep_from (contains sleepers) 0 s.processes }

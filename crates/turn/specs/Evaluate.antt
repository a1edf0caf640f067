-- The steps of an expression on a stack, and what they read on the way.
use Rattle.std.specs.Prelude.{◌≡◌, ℕ, ◌<◌, ◌||◌, List, [], ◌∷◌, map, length, reverse, Option, Some, None, is_some, slice_index_or, slice_set}
use Rattle.std.specs.List.{All}
use Rattle.logic4.specs.Vector.{Vector, resize}
use Rattle.logic4.specs.Operators.{select_digit}
use Rattle.model.specs.Expressions.{Store, value_of, one_digit}
use Rattle.model.specs.Turns.{contains, with_uses}
use Rattle.design.specs.declared.code.Op.{Op}
use Rattle.design.specs.declared.code.Op.TheVariants.{Load, Pick, BinaryRegister}
use Rattle.design.specs.Operate.{combined}
use Rattle.design.specs.ExpressionSteps.{topmost, below, act, run_ops, all_reads, IsOpOf}
use Rattle.turn.specs.declared.memory.Seen.{Seen}
use Rattle.turn.specs.declared.stack.Stack.{Stack}
use Rattle.turn.specs.Reads.{registers, AreDeclared, Agrees}
use Rattle.turn.specs.Memory.{LooksUp}

-- the vectors of a stack, the topmost one first
abbrev pub vectors : Stack → List Vector
vectors s = s.top ∷ reverse s.rest.items

-- each register that these steps read is declared, where there are this many
abbrev pub NamesDeclared : ℕ → List Op → Type 0
NamesDeclared n ops = All (IsOpOf n) ops

-- one step, with its look at a register if it reads one
abbrev pub Acts : Op → List (Option Vector) → List (ℕ × Seen) → List Vector → List (Option Vector) → List (ℕ × Seen) → List Vector → Type 0
Acts (Load r size) k s st k' s' st' = (v : Vector) × (LooksUp k s r v k' s' × (st' ≡ resize size v ∷ st))
Acts (Pick r i size) k s st k' s' st' = (v : Vector) × (LooksUp k s r v k' s' × (st' ≡ one_digit size (select_digit v i) ∷ st))
Acts (BinaryRegister op size asked r other) k s st k' s' st' = (v : Vector) × (LooksUp k s r v k' s' × (st' ≡ combined op size asked (topmost st) (resize other v) ∷ below st))
Acts op k s st k' s' st' = (k' ≡ k) × (s' ≡ s) × (st' ≡ act [] op st)

-- the values of these registers are those that are known
abbrev pub Holds : List (Option Vector) → Store → Type 0
Holds known values = (r : ℕ) (v : Vector) → slice_index_or known r None ≡ Some v → value_of values r ≡ v

-- the registers of writes
abbrev pub written_in : List (ℕ × Vector) → List ℕ
written_in writes = map (λ w. w.0) writes

-- a store after writes
abbrev pub written : Store → List (ℕ × Vector) → Store
written store [] = store
written store (w ∷ writes) = written (slice_set store w.0 w.1) writes

-- what is known are the reads and the writes, for every store that agrees with the reads, which are of declared registers
pub record Knows (writes : List (ℕ × Vector)) (reads : List (ℕ × Seen)) (known : List (Option Vector)) : Type 0 where
  pub holds : (store : Store) → length store ≡ length known → Agrees reads store → Holds known (written store writes)
  pub declared : AreDeclared (length known) reads
  pub marks : (r : ℕ) → r < length known → is_some (slice_index_or known r None) ≡ (contains (registers reads) r || contains (written_in writes) r)

-- what is known and read once these registers were looked at, in order
pub record Continues (writes : List (ℕ × Vector)) (rs : List ℕ) (reads : List (ℕ × Seen)) (reads' : List (ℕ × Seen)) (known' : List (Option Vector)) : Type 0 where
  pub knows : Knows writes reads' known'
  pub agrees : (store : Store) → Agrees reads' store → Agrees reads store
  pub uses : registers reads' ≡ with_uses (written_in writes) (registers reads) rs

-- steps on a stack, from what was known and read before to what is known and read after them
pub record RunsSteps (ops : List Op) (known : List (Option Vector)) (reads : List (ℕ × Seen)) (st : List Vector) (known' : List (Option Vector)) (reads' : List (ℕ × Seen)) (st' : List Vector) : Type 0 where
  pub size : length known' ≡ length known
  pub holds : (values : Store) → Holds known' values → Holds known values
  pub stack : (values : Store) → Holds known' values → run_ops values ops st ≡ st'
  pub continues : (writes : List (ℕ × Vector)) → Knows writes reads known → Continues writes (all_reads ops) reads reads' known'

-- the value of steps that read declared registers, from some stack
abbrev pub Evaluates : List Op → List (Option Vector) → List (ℕ × Seen) → Vector → List (Option Vector) → List (ℕ × Seen) → Type 0
Evaluates ops known reads v known' reads' =
    NamesDeclared (length known) ops
    → (st : List Vector) × ((st' : List Vector) × ((v ≡ topmost st') × RunsSteps ops known reads st known' reads' st'))

-- The runs that a search is of.
use Rattle.std.specs.Prelude.{ℕ, List}

-- The runs that a search is of, each told by its moves. A run so far stands for where it leads. A node of the search
-- stands at a run if it holds what that run leads to.
pub record Runs (Move Node End : Type 0) : Type 1 where
  -- a run of these moves may end in this way
  pub Ends : List Move → End → Type 0
  -- what a run of these moves prints
  pub text : List Move → List ℕ
  -- two runs so far that printed the same and go on alike
  pub Alike : List Move → List Move → Type 0
  -- a run of these moves has no more of them than it may have
  pub Within : List Move → Type 0
  -- what a node stands for
  pub Stands : Node → List Move → Type 0

-- Statements of a process, by their numbers among those of it that do the same.
use Rattle.std.specs.Prelude.{◌≡◌, ◌⊎◌, ℕ, ◌<◌, ◌≤◌, List, [], ◌∷◌, ◌++◌, Some, length, slice_get, slice_range}
use Rattle.std.specs.List.{All, sum_by}
use Rattle.design.specs.declared.code.Node.{Node}
use Rattle.design.specs.declared.code.ProcState.{ProcState}
use Rattle.design.specs.Compiled.{Compiled, design_of}
use Rattle.design.specs.DesignInvariant.{remainder_of_state, IsStateOf}
use Rattle.model.specs.Turns.{whole}
use Rattle.accesses.specs.declared.role.Site.{Site}
use Rattle.accesses.specs.declared.role.Role.{Role}
use Rattle.executed.specs.declared.deed.Deed.{Deed}
use Rattle.executed.specs.declared.statements.RunStatements.{RunStatements}
use Rattle.executed.specs.Deeds.{deed_of, at_most_word, times_done}

-- how often the nodes from a place up to another one do what is looked for
abbrev pub times_between : Compiled → Deed → ℕ → ℕ → ℕ
times_between code deed first place = at_most_word (sum_by (times_done code deed) (slice_range code.nodes first place))

-- A process begins at a place: one of a state of it that has its whole body before it.
pub record BeginsAt (code : Compiled) (process first : ℕ) : Type 0 where
  pub state : ProcState
  pub is_state : IsStateOf code process state
  pub has_whole : remainder_of_state code state ≡ whole (design_of code) process
  pub first_is : first ≡ state.place

-- A node between two places does what is looked for, and this is the number of the first time: so often those before it do.
pub record IsNumberBetween (code : Compiled) (deed : Deed) (first end number : ℕ) : Type 0 where
  pub place : ℕ
  pub node : Node
  pub from : first ≤ place
  pub before : place < end
  pub is_at : slice_get code.nodes place ≡ Some node
  pub has_done : 0 < times_done code deed node
  pub number_is : number ≡ times_between code deed first place

-- a number was kept behind others for a node that does so often what is looked for, or it wasn't
abbrev pub MayKeep : ℕ → ℕ → List ℕ → List ℕ → Type 0
MayKeep times number old new = (new ≡ old) ⊎ ((0 < times) × (new ≡ old ++ number ∷ []))

-- Each of these numbers is that of a node from where a process begins up to an end, which does what is looked for, and so often all nodes up to there do.
pub record AreNumbered (code : Compiled) (process : ℕ) (deed : Deed) (run : RunStatements) : Type 0 where
  pub first : ℕ
  pub end : ℕ
  pub begins : BeginsAt code process first
  pub within : end ≤ length code.nodes
  pub numbers_are : All (IsNumberBetween code deed first end) run.numbers.items
  pub total_is : run.total ≡ times_between code deed first end

-- Each of these numbers is that of a node of a role's process that does at a site what the role says.
pub record AreStatementsOfRole (code : Compiled) (site : Site) (role : Role) (run : RunStatements) : Type 0 where
  pub deed : Deed
  pub deed_is : deed_of site role.does ≡ Some deed
  pub numbered : AreNumbered code role.process deed run

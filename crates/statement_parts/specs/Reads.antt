-- What a statement reads, for an implicit event control (IEEE 1364-2005, 9.7.5).
use Rattle.std.specs.Prelude.{ℕ, nat_eq, if◌then◌else◌, List, [], ◌∷◌, ◌++◌, Option, Some, None, codes}
use Rattle.std.specs.Option.{option_to_list}
use Rattle.std.specs.List.{list_any, starts_with}
use Rattle.std.specs.Str.{bytes_eq}
use Rattle.syntax_tree.specs.Expressions as source
use Rattle.syntax_tree.specs.Expressions.{Expression, Expressions}
use Rattle.sizing.specs.declared.environment.Object.{Object}
use Rattle.sizing.specs.Names.{Names}
use Rattle.sizing.specs.Meanings.{meaning}
use Rattle.design_scopes.specs.Flat.{object_name}
use Rattle.statement_parts.specs.Statements as plain
use Rattle.statement_parts.specs.Statements.{SourceText, PlainStatement, PlainStatements, PlainBranches, PlainOtherwise, PlainItems, PlainAssignment}
use Rattle.statement_parts.specs.Surroundings.{Surroundings, inner_scope}

-- the flat name of an object that varies
abbrev pub varying : Option Object → List SourceText
varying None = []
varying (Some o) = option_to_list (object_name o)

-- the flat names of the variables that an expression reads, from left to right
abbrev mutual
  pub read_by : Names → Expression → List SourceText
  read_by n (source.Number at sized signed cut v) = []
  read_by n (source.Real at text) = []
  read_by n (source.Text at bytes) = []
  read_by n (source.Name at name) = varying (meaning n (source.Name at name)).object
  read_by n (source.Member at base name) = varying (meaning n (source.Member at base name)).object
  read_by n (source.Index at base i) = read_by n base ++ read_by n i
  read_by n (source.Part at form base first second) = read_by n base ++ (read_by n first ++ read_by n second)
  read_by n (source.Call at function arguments) = all_read_by n arguments
  read_by n (source.SystemCall at name arguments) = all_read_by n arguments
  read_by n (source.Concatenation at parts) = all_read_by n parts
  read_by n (source.Replication at count parts) = all_read_by n parts
  read_by n (source.Unary at op e) = read_by n e
  read_by n (source.Binary at op e f) = read_by n e ++ read_by n f
  read_by n (source.Conditional at c e f) = read_by n c ++ (read_by n e ++ read_by n f)
  read_by n (source.Refused at) = []

  pub all_read_by : Names → Expressions → List SourceText
  all_read_by n source.Nothing = []
  all_read_by n (source.Also e es) = read_by n e ++ all_read_by n es

-- the variables that some expressions read
abbrev pub listed_reads : Names → List Expression → List SourceText
listed_reads n es = all_read_by n (source.plain_expressions es)

-- and an argument, which may be left out
abbrev pub argument_reads : Names → Option Expression → List SourceText
argument_reads n None = []
argument_reads n (Some e) = read_by n e

-- and some arguments
abbrev pub all_argument_reads : Names → List (Option Expression) → List SourceText
all_argument_reads n [] = []
all_argument_reads n (e ∷ es) = argument_reads n e ++ all_argument_reads n es

abbrev mutual
  -- what the target of an assignment reads: its indices, and those of its parts
  pub target_reads : Names → Expression → List SourceText
  target_reads n (source.Index at base i) = target_reads n base ++ read_by n i
  target_reads n (source.Part at form base first second) = target_reads n base ++ (read_by n first ++ read_by n second)
  target_reads n (source.Concatenation at parts) = all_target_reads n parts
  target_reads n _ = []

  pub all_target_reads : Names → Expressions → List SourceText
  all_target_reads n source.Nothing = []
  all_target_reads n (source.Also e es) = target_reads n e ++ all_target_reads n es

-- what an assignment reads
abbrev pub assigned_reads : Names → Expression → Expression → List SourceText
assigned_reads n target value = target_reads n target ++ read_by n value

-- what the head of a `for` reads
abbrev pub head_reads : Names → PlainAssignment → Expression → PlainAssignment → List SourceText
head_reads n start condition step = assigned_reads n start.target start.value ++ (read_by n condition ++ assigned_reads n step.target step.value)

-- a name that doesn't begin with a text
abbrev pub unless_front : SourceText → SourceText → List SourceText
unless_front front name = if starts_with nat_eq name front then [] else name ∷ []

-- the names that don't begin with a text
abbrev pub without_front : SourceText → List SourceText → List SourceText
without_front front [] = []
without_front front (name ∷ names) = unless_front front name ++ without_front front names

-- names without those of what the scope of a block declares, or a scope in it, by the full name of the scope
abbrev pub without_declared : SourceText → List SourceText → List SourceText
without_declared path names = without_front (path ++ codes ".") names

-- so for a block that has a name
abbrev pub without_locals : Option SourceText → SourceText → List SourceText → List SourceText
without_locals None path names = names
without_locals (Some name) path names = without_declared path names

-- what the statements of a block read, by what they read at a scope: that of the block, whose variables don't count where it has a name
abbrev pub read_inside : Surroundings → Option ℕ → Option SourceText → (ℕ → List SourceText) → List SourceText
read_inside d None name read = []
read_inside d (Some inner) name read = without_locals name (d.path inner) (read inner)

abbrev mutual
  -- the variables that a statement reads, in the order of the text. An event control, and a condition that is waited for, count for
  -- nothing, and neither do the variables of blocks inside of the statement.
  pub read_in : Surroundings → ℕ → PlainStatement → List SourceText
  read_in d scope (plain.Empty at) = []
  read_in d scope (plain.Block at form name body) = read_inside d (inner_scope d scope name) name (λ inner. read_in_all d inner body)
  read_in d scope (plain.Assignment at form target timing value) = assigned_reads (d.names scope) target value
  read_in d scope (plain.Delayed at delay body) = read_in d scope body
  read_in d scope (plain.Awaited at control body) = read_in d scope body
  read_in d scope (plain.Wait at condition body) = read_in d scope body
  read_in d scope (plain.If at branches otherwise) = read_in_branches d scope branches ++ read_in_else d scope otherwise
  read_in d scope (plain.Case at form selector items) = read_by (d.names scope) selector ++ read_in_items d scope items
  read_in d scope (plain.For at start condition step body) =
      head_reads (d.names scope) start condition step ++ read_in d scope body
  read_in d scope (plain.Repeat at count body) = read_by (d.names scope) count ++ read_in d scope body
  read_in d scope (plain.While at condition body) = read_by (d.names scope) condition ++ read_in d scope body
  read_in d scope (plain.Forever at body) = read_in d scope body
  read_in d scope (plain.Disable at target) = []
  read_in d scope (plain.Trigger at event) = []
  read_in d scope (plain.TaskCall at task arguments) = listed_reads (d.names scope) arguments
  read_in d scope (plain.SystemTaskCall at name arguments) = all_argument_reads (d.names scope) arguments
  read_in d scope (plain.Refused at) = []

  pub read_in_all : Surroundings → ℕ → PlainStatements → List SourceText
  read_in_all d scope plain.NoMore = []
  read_in_all d scope (plain.Then s ss) = read_in d scope s ++ read_in_all d scope ss

  pub read_in_branches : Surroundings → ℕ → PlainBranches → List SourceText
  read_in_branches d scope plain.NoBranch = []
  read_in_branches d scope (plain.Branch condition s bs) = read_by (d.names scope) condition ++ (read_in d scope s ++ read_in_branches d scope bs)

  pub read_in_else : Surroundings → ℕ → PlainOtherwise → List SourceText
  read_in_else d scope plain.NoElse = []
  read_in_else d scope (plain.Else s) = read_in d scope s

  pub read_in_items : Surroundings → ℕ → PlainItems → List SourceText
  read_in_items d scope plain.NoItem = []
  read_in_items d scope (plain.Item at labels s items) = listed_reads (d.names scope) labels ++ (read_in d scope s ++ read_in_items d scope items)

-- a name behind some that are there already, unless it is among them
abbrev pub with_name : List SourceText → SourceText → List SourceText
with_name found name = if list_any (bytes_eq name) found then found else found ++ name ∷ []

-- names behind some that are there already, each that isn't among them once
abbrev pub added_once : List SourceText → List SourceText → List SourceText
added_once found [] = found
added_once found (name ∷ names) = added_once (with_name found name) names

-- what an implicit event control before a statement waits for, each variable once
abbrev pub names_read : Surroundings → ℕ → PlainStatement → List SourceText
names_read d scope s = added_once [] (read_in d scope s)

-- The functions and tasks of a text (IEEE 1364-2005, 10), in generate constructs too (12.4).
use Rattle.std.specs.Prelude.{◌≡◌, ℕ, Bool, true, false, List, map, Some, Contains}
use Rattle.std.specs.List.{flat_map}
use Rattle.syntax_tree.specs.declared.declarations.Declarator.{Declarator}
use Rattle.syntax_tree.specs.declared.declarations.Direction.{Direction}
use Rattle.syntax_tree.specs.declared.declarations.PortDeclaration.{PortDeclaration}
use Rattle.syntax_tree.specs.declared.modules.FunctionDeclaration.{FunctionDeclaration}
use Rattle.syntax_tree.specs.declared.modules.TaskDeclaration.{TaskDeclaration}
use Rattle.syntax_tree.specs.declared.modules.ModuleDeclaration.{ModuleDeclaration}
use Rattle.syntax_tree.specs.declared.modules.ModuleItem.{ModuleItem}
use Rattle.syntax_tree.specs.declared.modules.ModuleItem.TheVariants as item
use Rattle.syntax_tree.specs.declared.modules.GenerateBlock.{GenerateBlock, out-GenerateBlock}
use Rattle.syntax_tree.specs.declared.modules.GenerateLoop.{GenerateLoop, out-GenerateLoop}
use Rattle.syntax_tree.specs.declared.modules.GenerateIf.{GenerateIf, out-GenerateIf}
use Rattle.syntax_tree.specs.declared.modules.GenerateBranch.{GenerateBranch, out-GenerateBranch}
use Rattle.syntax_tree.specs.declared.modules.GenerateCase.{GenerateCase, out-GenerateCase}
use Rattle.syntax_tree.specs.declared.modules.GenerateCaseItem.{GenerateCaseItem, out-GenerateCaseItem}
use Rattle.statement_parts.specs.Statements.{SourceText, PlainStatement, plain_of}

-- an argument of a function or a task (10.2.1, 10.4.1)
pub record PlainArgument : Type 0 where
  pub direction : Direction
  pub name : SourceText

-- a function or a task
pub record PlainRoutine : Type 0 where
  pub is_function : Bool
  pub name : SourceText
  pub arguments : List PlainArgument
  pub body : PlainStatement

-- an argument of a direction, by what declares its name
abbrev pub argument_named : Direction → Declarator → PlainArgument
argument_named direction d = record { direction = direction; name = d.identifier.name.items }

-- the arguments of a declaration, in their order
abbrev pub arguments_declared : PortDeclaration → List PlainArgument
arguments_declared p = map (argument_named p.direction) p.declarators.items

abbrev pub function_declared : FunctionDeclaration → PlainRoutine
function_declared f = record { is_function = true; name = f.identifier.name.items; arguments = flat_map arguments_declared f.arguments.items; body = plain_of f.body }

abbrev pub task_declared : TaskDeclaration → PlainRoutine
task_declared t = record { is_function = false; name = t.identifier.name.items; arguments = flat_map arguments_declared t.arguments.items; body = plain_of t.body }

mutual
  -- an item is another one, or stands in it
  pub data IsWithin (x : ModuleItem) : ModuleItem → Type 0 where
    itself : (i : ModuleItem) → i ≡ x → IsWithin x i
    within_loop : (i : ModuleItem) (inner : GenerateLoop) → i ≡ item.GenerateLoop inner → IsWithinBlock x (out-GenerateLoop inner).body → IsWithin x i
    within_branch : (i : ModuleItem) (inner : GenerateIf) (branch : GenerateBranch) → i ≡ item.GenerateIf inner → Contains (out-GenerateIf inner).branches.items branch → IsWithinBlock x (out-GenerateBranch branch).body → IsWithin x i
    within_last : (i : ModuleItem) (inner : GenerateIf) (block : GenerateBlock) → i ≡ item.GenerateIf inner → (out-GenerateIf inner).otherwise ≡ Some block → IsWithinBlock x block → IsWithin x i
    within_case : (i : ModuleItem) (inner : GenerateCase) (one : GenerateCaseItem) → i ≡ item.GenerateCase inner → Contains (out-GenerateCase inner).items.items one → IsWithinBlock x (out-GenerateCaseItem one).body → IsWithin x i
    within_block : (i : ModuleItem) (block : GenerateBlock) → i ≡ item.GenerateBlock block → IsWithinBlock x block → IsWithin x i

  -- an item stands in a generate block
  pub data IsWithinBlock (x : ModuleItem) : GenerateBlock → Type 0 where
    within_items : (block : GenerateBlock) (i : ModuleItem) → Contains (out-GenerateBlock block).items.items i → IsWithin x i → IsWithinBlock x block

-- an item stands in a module
abbrev pub IsWithinModule : ModuleDeclaration → ModuleItem → Type 0
IsWithinModule m x = (i : ModuleItem) × Contains m.items.items i × IsWithin x i

-- an item stands in one of some modules
abbrev pub IsWithinText : List ModuleDeclaration → ModuleItem → Type 0
IsWithinText modules x = (m : ModuleDeclaration) × Contains modules m × IsWithinModule m x

-- what modules declare at a token is this function, or this task
pub data DeclaresRoutine (modules : List ModuleDeclaration) (token : ℕ) (p : PlainRoutine) : Type 0 where
  as_function : (f : FunctionDeclaration) → IsWithinText modules (item.Function f) → f.token ≡ token → p ≡ function_declared f → DeclaresRoutine modules token p
  as_task : (t : TaskDeclaration) → IsWithinText modules (item.Task t) → t.token ≡ token → p ≡ task_declared t → DeclaresRoutine modules token p

-- A function or a task of a table as a plain one.
use Rattle.std.specs.Prelude.{◌≡◌, ◌⊎◌, true, false, Bool, List, map, Contains}
use Rattle.syntax_tree.specs.declared.modules.FunctionDeclaration.{FunctionDeclaration}
use Rattle.syntax_tree.specs.declared.modules.TaskDeclaration.{TaskDeclaration}
use Rattle.syntax_tree.specs.declared.modules.ModuleItem.{ModuleItem}
use Rattle.syntax_tree.specs.declared.modules.ModuleItem.TheVariants as item
use Rattle.routine_texts.specs.declared.table.Argument.{Argument}
use Rattle.routine_texts.specs.declared.table.Routine.{Routine}
use Rattle.routine_texts.specs.declared.table.RoutineKind.{RoutineKind}
use Rattle.routine_texts.specs.declared.table.RoutineKind.TheVariants.{Function, Task}
use Rattle.routine_texts.specs.Routines.{PlainRoutine, PlainArgument, function_declared, task_declared}
use Rattle.statement_parts.specs.Statements.{plain_of}

-- whether something is a function
abbrev pub is_function_kind : RoutineKind → Bool
is_function_kind Function = true
is_function_kind Task = false

abbrev pub argument_plain : Argument → PlainArgument
argument_plain a = record { direction = a.direction; name = a.name.now }

abbrev pub routine_plain : Routine → PlainRoutine
routine_plain r = record { is_function = is_function_kind r.kind; name = r.name.now; arguments = map argument_plain r.arguments.items; body = plain_of r.body.now }

-- a function or a task of a table is one of some items
pub data IsOfItem (P : ModuleItem → Type 0) (r : Routine) : Type 0 where
  of_function : (f : FunctionDeclaration) → P (item.Function f) → r.token ≡ f.token → routine_plain r ≡ function_declared f → IsOfItem P r
  of_task : (t : TaskDeclaration) → P (item.Task t) → r.token ≡ t.token → routine_plain r ≡ task_declared t → IsOfItem P r

-- each function or task that is new in a table is one of these items
abbrev pub AddsRoutines : List Routine → List Routine → (ModuleItem → Type 0) → Type 0
AddsRoutines old new P = (r : Routine) → Contains new r → Contains old r ⊎ IsOfItem P r

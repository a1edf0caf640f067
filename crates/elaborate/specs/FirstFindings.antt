-- What the walks over a tree find first. Each definition here answers for one of them.
use Rattle.std.specs.Prelude.{◌≡◌, ℕ, ◌+◌, Bool, true, false, not, nat_lt, nat_le, min, List, [], ◌∷◌, ◌++◌, map, length, Option, Some, None, Result, Ok, Err, string_bytes}
use Rattle.model.specs.Elaboration as model
use Rattle.model.specs.Elaboration.{Fault, Declared, declared, is_declared, is_range, is_index, range_of, parts_size, greatest_delay, pieces_of, count_of, is_format_for}
use Rattle.model.specs.declared.limits.ModuleLimits.{ModuleLimits}
use Rattle.model.specs.ModuleLimits.{most_registers, most_processes}
use Rattle.model.specs.Syntax as source
use Rattle.model.specs.Syntax.{Text, Expression, Register, Select, Literal, Concat, Unary, Binary, Conditional, Extend, Expressions, Nothing, Also, Piece}
use Rattle.logic4.specs.Vector.{greatest_width}
use Rattle.elaborate.specs.declared.fault.ElabFault.{ElabFault}
use Rattle.elaborate.specs.declared.fault.ElabFault.TheVariants as told
use Rattle.elaborate.specs.declared.finding.Finding.{Finding}
use Rattle.elaborate.specs.declared.finding.Finding.TheVariants as finding

-- what a walk's finding stands for
abbrev pub plain : Finding → Fault
plain (finding.Undeclared name) = model.Undeclared name.now
plain (finding.DeclaredTwice name) = model.DeclaredTwice name.now
plain (finding.BadRange name) = model.BadRange name.now
plain finding.TooManyRegisters = model.TooManyRegisters
plain finding.TooManyProcesses = model.TooManyProcesses
plain finding.BadFormat = model.BadFormat
plain finding.WideConcat = model.WideConcat
plain (finding.BadIndex name) = model.BadIndex name.now
plain finding.LongDelay = model.LongDelay

-- the finding that a walk ended at, if it did
abbrev pub first_finding : Result (Unit {0}) Finding → Option Fault
first_finding (Ok u) = None
first_finding (Err f) = Some (plain f)

-- the one, or else the other
abbrev pub or_fault : Option Fault → Option Fault → Option Fault
or_fault None other = other
or_fault (Some f) other = Some f

-- something found where a condition holds
abbrev pub found_where : Bool → Fault → Option Fault
found_where true f = Some f
found_where false f = None

-- a name that isn't declared
abbrev pub undeclared_fault : List Declared → Text → Option Fault
undeclared_fault ds name = found_where (not (is_declared ds name)) (model.Undeclared name)

-- the first name of an expression that isn't declared
abbrev mutual
  pub used : List Declared → Expression Text → Option Fault
  used ds (Register name) = undeclared_fault ds name
  used ds (Select name i) = undeclared_fault ds name
  used ds (Literal v) = None
  used ds (Concat parts) = all_used ds parts
  used ds (Unary op e) = used ds e
  used ds (Binary op e f) = or_fault (used ds e) (used ds f)
  used ds (Conditional c e f) = or_fault (used ds c) (or_fault (used ds e) (used ds f))
  used ds (Extend by size e) = used ds e

  pub all_used : List Declared → Expressions Text → Option Fault
  all_used ds Nothing = None
  all_used ds (Also e es) = or_fault (used ds e) (all_used ds es)

-- what is told is what was found; want of memory may be told at any time
abbrev pub IsModuleFaultOf : ElabFault → Fault → Type 0
IsModuleFaultOf (told.Undeclared name) f = f ≡ model.Undeclared (string_bytes name)
IsModuleFaultOf (told.DeclaredTwice name) f = f ≡ model.DeclaredTwice (string_bytes name)
IsModuleFaultOf (told.BadRange name) f = f ≡ model.BadRange (string_bytes name)
IsModuleFaultOf told.TooManyRegisters f = f ≡ model.TooManyRegisters
IsModuleFaultOf told.TooManyProcesses f = f ≡ model.TooManyProcesses
IsModuleFaultOf told.BadFormat f = f ≡ model.BadFormat
IsModuleFaultOf told.WideConcat f = f ≡ model.WideConcat
IsModuleFaultOf (told.BadIndex name) f = f ≡ model.BadIndex (string_bytes name)
IsModuleFaultOf told.LongDelay f = f ≡ model.LongDelay
IsModuleFaultOf told.Memory f = Unit {0}

-- the fault that is told of a finding with no name in it, for which no memory is taken
abbrev pub told_of : Option Fault → Option ElabFault
told_of None = None
told_of (Some (model.Undeclared name)) = None
told_of (Some (model.DeclaredTwice name)) = None
told_of (Some (model.BadRange name)) = None
told_of (Some model.TooManyRegisters) = Some told.TooManyRegisters
told_of (Some model.TooManyProcesses) = Some told.TooManyProcesses
told_of (Some model.BadFormat) = Some told.BadFormat
told_of (Some model.WideConcat) = Some told.WideConcat
told_of (Some (model.BadIndex name)) = None
told_of (Some model.LongDelay) = Some told.LongDelay

-- the first of some names that isn't declared
abbrev pub unknown_among : List Declared → List Text → Option Fault
unknown_among ds [] = None
unknown_among ds (name ∷ names) = or_fault (undeclared_fault ds name) (unknown_among ds names)

-- the first name of statements that isn't declared
abbrev mutual
  pub used_in : List Declared → source.SourceStatement → Option Fault
  used_in ds source.Empty = None
  used_in ds (source.Block body) = all_used_in ds body
  used_in ds (source.Assign name delay e) = or_fault (undeclared_fault ds name) (used ds e)
  used_in ds (source.AssignLater name delay e) = or_fault (undeclared_fault ds name) (used ds e)
  used_in ds (source.Now name) = undeclared_fault ds name
  used_in ds (source.Delay delay s) = used_in ds s
  used_in ds (source.Await triggers s) = or_fault (unknown_among ds (map (λ t. t.1) triggers)) (used_in ds s)
  used_in ds (source.If c body) = or_fault (used ds c) (all_used_in ds body)
  used_in ds (source.IfElse c body otherwise) = or_fault (used ds c) (or_fault (all_used_in ds body) (all_used_in ds otherwise))
  used_in ds (source.While c body) = or_fault (used ds c) (all_used_in ds body)
  used_in ds (source.Print task format arguments) = all_used ds arguments
  used_in ds (source.PrintPieces task pieces arguments) = all_used ds arguments
  used_in ds source.Finish = None

  pub all_used_in : List Declared → source.SourceStatements → Option Fault
  all_used_in ds source.End = None
  all_used_in ds (source.Then s ss) = or_fault (used_in ds s) (all_used_in ds ss)

-- the first name of processes that isn't declared
abbrev pub used_by : List Declared → List source.SourceProcess → Option Fault
used_by ds [] = None
used_by ds (p ∷ ps) = or_fault (used_in ds p.body) (used_by ds ps)

-- what is wrong with one declared name, behind others
abbrev pub found_name : ModuleLimits → List Declared → Declared → Option Fault
found_name limits before d =
    or_fault (found_where (is_declared before d.0) (model.DeclaredTwice d.0))
    (or_fault (found_where (not (is_range d.1)) (model.BadRange d.0))
    (found_where (nat_le (most_registers limits) (length before)) model.TooManyRegisters))

-- what is wrong first with declared names, behind others
abbrev pub found_names : ModuleLimits → List Declared → List Declared → Option Fault
found_names limits before [] = None
found_names limits before (d ∷ ds) = or_fault (found_name limits before d) (found_names limits (before ++ d ∷ []) ds)

-- a size, or one more than the greatest width where it is greater
abbrev pub capped : ℕ → ℕ
capped size = min size (greatest_width + 1)

-- a concatenation over the greatest width
abbrev pub found_concat : List Declared → Expressions Text → Option Fault
found_concat ds parts = found_where (nat_lt greatest_width (parts_size ds parts)) model.WideConcat

-- what is wrong first with an expression, in the order of the text
abbrev mutual
  pub found : List Declared → Expression Text → Option Fault
  found ds (Register name) = None
  found ds (Select name i) = found_where (not (is_index (range_of ds name) i)) (model.BadIndex name)
  found ds (Literal v) = None
  found ds (Concat parts) = or_fault (found_concat ds parts) (all_found ds parts)
  found ds (Unary op e) = found ds e
  found ds (Binary op e f) = or_fault (found ds e) (found ds f)
  found ds (Conditional c e f) = or_fault (found ds c) (or_fault (found ds e) (found ds f))
  found ds (Extend by size e) = found ds e

  pub all_found : List Declared → Expressions Text → Option Fault
  all_found ds Nothing = None
  all_found ds (Also e es) = or_fault (found ds e) (all_found ds es)

-- a delay that is too long
abbrev pub found_delay : Option ℕ → Option Fault
found_delay None = None
found_delay (Some delay) = found_where (nat_lt greatest_delay delay) model.LongDelay

-- pieces that aren't there, or aren't those of a format for the arguments
abbrev pub found_pieces : Option (List Piece) → ℕ → Option Fault
found_pieces pieces count = found_where (not (is_format_for pieces count)) model.BadFormat

-- a format that isn't one for its arguments
abbrev pub found_format : List ℕ → ℕ → Option Fault
found_format format count = found_pieces (pieces_of format) count

-- what is wrong first with statements, in the order of the text
abbrev mutual
  pub found_in : List Declared → source.SourceStatement → Option Fault
  found_in ds source.Empty = None
  found_in ds (source.Block body) = all_found_in ds body
  found_in ds (source.Assign name delay e) = or_fault (found_delay delay) (found ds e)
  found_in ds (source.AssignLater name delay e) = or_fault (found_delay delay) (found ds e)
  found_in ds (source.Now name) = None
  found_in ds (source.Delay delay s) = or_fault (found_delay (Some delay)) (found_in ds s)
  found_in ds (source.Await triggers s) = found_in ds s
  found_in ds (source.If c body) = or_fault (found ds c) (all_found_in ds body)
  found_in ds (source.IfElse c body otherwise) = or_fault (found ds c) (or_fault (all_found_in ds body) (all_found_in ds otherwise))
  found_in ds (source.While c body) = or_fault (found ds c) (all_found_in ds body)
  found_in ds (source.Print task format arguments) = or_fault (found_format format (count_of arguments)) (all_found ds arguments)
  found_in ds (source.PrintPieces task pieces arguments) = or_fault (found_pieces (Some pieces) (count_of arguments)) (all_found ds arguments)
  found_in ds source.Finish = None

  pub all_found_in : List Declared → source.SourceStatements → Option Fault
  all_found_in ds source.End = None
  all_found_in ds (source.Then s ss) = or_fault (found_in ds s) (all_found_in ds ss)

-- what is wrong first with processes
abbrev pub found_by : List Declared → List source.SourceProcess → Option Fault
found_by ds [] = None
found_by ds (p ∷ ps) = or_fault (found_in ds p.body) (found_by ds ps)

-- too many processes
abbrev pub found_few : ModuleLimits → ℕ → Option Fault
found_few limits count = found_where (nat_lt (most_processes limits) count) model.TooManyProcesses

-- what is wrong first with the processes of a module: too many, names, and the rest
abbrev pub found_among : ModuleLimits → List Declared → List source.SourceProcess → Option Fault
found_among limits ds ps = or_fault (found_few limits (length ps)) (or_fault (used_by ds ps) (found_by ds ps))

-- what is wrong first with a module
abbrev pub found_module : ModuleLimits → source.Module → Option Fault
found_module limits m = or_fault (found_names limits [] (declared m)) (found_among limits (declared m) m.processes)

-- a fault that is told is what was found first; only want of memory is told where nothing was found
abbrev pub IsFirstOf : ElabFault → Option Fault → Type 0
IsFirstOf fault (Some f) = IsModuleFaultOf fault f
IsFirstOf fault None = fault ≡ told.Memory

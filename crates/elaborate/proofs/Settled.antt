-- What the walks find first is the first of the faults.
use Rattle.std.proofs.Common.{◌≡◌, ℕ, nat_lt, nat_le, Bool, true, false, not, List, [], ◌∷◌, ◌++◌, map, length, flat_map, Option, Some, None, refl, sym, ap, subst, ◌∙◌, append-nil, append_assoc}
use Rattle.std.proofs.lemmas.Grind.{flat_map-append}
use Rattle.model.specs.declared.limits.ModuleLimits.{ModuleLimits}
use Rattle.model.specs.ModuleLimits.{most_registers, most_processes}
use Rattle.model.specs.Syntax as source
use Rattle.model.specs.Syntax.{Text, Expression, Register, Select, Literal, Concat, Unary, Binary, Conditional, Extend, Expressions, Nothing, Also, Module, registers_of, all_registers_of}
use Rattle.logic4.specs.Vector.{greatest_width}
use Rattle.model.specs.Elaboration as model
use Rattle.model.specs.Elaboration.{Fault, Declared, is_declared, is_range, is_index, range_of, parts_size, greatest_delay, count_of, is_format_for, pieces_of, fault_where, undeclared, declaration_faults, expression_faults, all_expression_faults, delay_faults, statement_faults, all_statement_faults, names_in, all_names_in, faults_within, declared}
use Rattle.elaborate.specs.declared.fault.ElabFault.{ElabFault}
use Rattle.elaborate.specs.declared.fault.ElabFault.TheVariants as fault
use Rattle.elaborate.specs.ModuleFaults.{first_of_faults, IsFirstFault}
use Rattle.elaborate.specs.FirstFindings.{or_fault, found_where, undeclared_fault, unknown_among, used, all_used, used_in, all_used_in, used_by, found_name, found_names, found_concat, found, all_found, found_delay, found_format, found_pieces, found_in, all_found_in, found_by, found_among, found_module, IsFirstOf}

-- What is found first settles the faults: where nothing is found there is none, and a fault that is found is the first.
abbrev pub Settles : Option Fault → List Fault → Type 0
Settles None fs = fs ≡ []
Settles (Some f) fs = first_of_faults fs ≡ Some f

first_append : (fs gs : List Fault) (f : Fault) → first_of_faults fs ≡ Some f → first_of_faults (fs ++ gs) ≡ Some f
first_append [] gs f h = absurd cc
first_append (x ∷ fs) gs f h = h

-- one walk behind another
pub behind : (o p : Option Fault) (fs gs : List Fault) → Settles o fs → Settles p gs → Settles (or_fault o p) (fs ++ gs)
behind None None fs gs x y = ap (λ xs. xs ++ gs) x ∙ y
behind None (Some f) fs gs x y = ap (λ xs. first_of_faults (xs ++ gs)) x ∙ y
behind (Some f) p fs gs x y = first_append fs gs f x

-- a fault where a condition holds
pub at : (b : Bool) (f : Fault) → Settles (found_where b f) (fault_where b f)
at true f = refl
at false f = refl

-- the declarations
pub declarations_settle : (limits : ModuleLimits) (before ds : List Declared) → Settles (found_names limits before ds) (declaration_faults limits before ds)
declarations_settle limits before [] = refl
declarations_settle limits before (d ∷ ds) =
    let twice = fault_where (is_declared before d.0) (model.DeclaredTwice d.0) in
    let range = fault_where (not (is_range d.1)) (model.BadRange d.0) in
    let many = fault_where (nat_le (most_registers limits) (length before)) model.TooManyRegisters in
    let o1 = found_where (is_declared before d.0) (model.DeclaredTwice d.0) in
    let o2 = found_where (not (is_range d.1)) (model.BadRange d.0) in
    let o3 = found_where (nat_le (most_registers limits) (length before)) model.TooManyRegisters in
    let one : Settles (found_name limits before d) (twice ++ (range ++ many)) =
    behind o1 (or_fault o2 o3) twice (range ++ many) (at (is_declared before d.0) (model.DeclaredTwice d.0))
    (behind o2 o3 range many (at (not (is_range d.1)) (model.BadRange d.0)) (at (nat_le (most_registers limits) (length before)) model.TooManyRegisters)) in
    let rest = declaration_faults limits (before ++ d ∷ []) ds in
    let whole = behind (found_name limits before d) (found_names limits (before ++ d ∷ []) ds) (twice ++ (range ++ many)) rest one (declarations_settle limits (before ++ d ∷ []) ds) in
    subst (λ fs. Settles (found_names limits before (d ∷ ds)) fs) (append_assoc twice (range ++ many) rest ∙ ap (λ fs. twice ++ fs) (append_assoc range many rest)) whole

-- the names of an expression
pub name_settles : (ds : List Declared) (name : Text) → Settles (undeclared_fault ds name) (flat_map (undeclared ds) (name ∷ []))
name_settles ds name = subst (λ fs. Settles (undeclared_fault ds name) fs) (sym (append-nil (undeclared ds name))) (at (not (is_declared ds name)) (model.Undeclared name))

-- names, and then others
names_behind : (ds : List Declared) (o p : Option Fault) (xs ys : List Text) → Settles o (flat_map (undeclared ds) xs) → Settles p (flat_map (undeclared ds) ys)
    → Settles (or_fault o p) (flat_map (undeclared ds) (xs ++ ys))
names_behind ds o p xs ys x y =
    subst (λ fs. Settles (or_fault o p) fs) (sym (flat_map-append (undeclared ds) xs ys)) (behind o p (flat_map (undeclared ds) xs) (flat_map (undeclared ds) ys) x y)

mutual
  pub used_settles : (ds : List Declared) (e : Expression Text) → Settles (used ds e) (flat_map (undeclared ds) (registers_of e))
  used_settles ds (Register name) = name_settles ds name
  used_settles ds (Select name i) = name_settles ds name
  used_settles ds (Literal v) = refl
  used_settles ds (Concat parts) = all_used_settle ds parts
  used_settles ds (Unary op e) = used_settles ds e
  used_settles ds (Binary op e f) = names_behind ds (used ds e) (used ds f) (registers_of e) (registers_of f) (used_settles ds e) (used_settles ds f)
  used_settles ds (Extend by size e) = used_settles ds e
  used_settles ds (Conditional c e f) =
      names_behind ds (used ds c) (or_fault (used ds e) (used ds f)) (registers_of c) (registers_of e ++ registers_of f) (used_settles ds c)
      (names_behind ds (used ds e) (used ds f) (registers_of e) (registers_of f) (used_settles ds e) (used_settles ds f))

  pub all_used_settle : (ds : List Declared) (es : Expressions Text) → Settles (all_used ds es) (flat_map (undeclared ds) (all_registers_of es))
  all_used_settle ds Nothing = refl
  all_used_settle ds (Also e es) = names_behind ds (used ds e) (all_used ds es) (registers_of e) (all_registers_of es) (used_settles ds e) (all_used_settle ds es)

pub names_settle : (ds : List Declared) (names : List Text) → Settles (unknown_among ds names) (flat_map (undeclared ds) names)
names_settle ds [] = refl
names_settle ds (name ∷ names) = behind (undeclared_fault ds name) (unknown_among ds names) (undeclared ds name) (flat_map (undeclared ds) names) (at (not (is_declared ds name)) (model.Undeclared name)) (names_settle ds names)

mutual
  pub used_in_settles : (ds : List Declared) (s : source.SourceStatement) → Settles (used_in ds s) (flat_map (undeclared ds) (names_in s))
  used_in_settles ds source.Empty = refl
  used_in_settles ds (source.Block body) = all_used_in_settle ds body
  used_in_settles ds (source.Assign name delay e) = names_behind ds (undeclared_fault ds name) (used ds e) (name ∷ []) (registers_of e) (name_settles ds name) (used_settles ds e)
  used_in_settles ds (source.AssignLater name delay e) = names_behind ds (undeclared_fault ds name) (used ds e) (name ∷ []) (registers_of e) (name_settles ds name) (used_settles ds e)
  used_in_settles ds (source.Now name) = name_settles ds name
  used_in_settles ds (source.Delay delay s) = used_in_settles ds s
  used_in_settles ds (source.Await triggers s) =
      names_behind ds (unknown_among ds (map (λ t. t.1) triggers)) (used_in ds s) (map (λ t. t.1) triggers) (names_in s) (names_settle ds (map (λ t. t.1) triggers)) (used_in_settles ds s)
  used_in_settles ds (source.If c body) = names_behind ds (used ds c) (all_used_in ds body) (registers_of c) (all_names_in body) (used_settles ds c) (all_used_in_settle ds body)
  used_in_settles ds (source.IfElse c body otherwise) =
      names_behind ds (used ds c) (or_fault (all_used_in ds body) (all_used_in ds otherwise)) (registers_of c) (all_names_in body ++ all_names_in otherwise) (used_settles ds c)
      (names_behind ds (all_used_in ds body) (all_used_in ds otherwise) (all_names_in body) (all_names_in otherwise) (all_used_in_settle ds body) (all_used_in_settle ds otherwise))
  used_in_settles ds (source.While c body) = names_behind ds (used ds c) (all_used_in ds body) (registers_of c) (all_names_in body) (used_settles ds c) (all_used_in_settle ds body)
  used_in_settles ds (source.Print task format arguments) = all_used_settle ds arguments
  used_in_settles ds (source.PrintPieces task pieces arguments) = all_used_settle ds arguments
  used_in_settles ds source.Finish = refl

  pub all_used_in_settle : (ds : List Declared) (ss : source.SourceStatements) → Settles (all_used_in ds ss) (flat_map (undeclared ds) (all_names_in ss))
  all_used_in_settle ds source.End = refl
  all_used_in_settle ds (source.Then s ss) = names_behind ds (used_in ds s) (all_used_in ds ss) (names_in s) (all_names_in ss) (used_in_settles ds s) (all_used_in_settle ds ss)

pub used_by_settle : (ds : List Declared) (ps : List source.SourceProcess) → Settles (used_by ds ps) (flat_map (undeclared ds) (flat_map (λ p. names_in p.body) ps))
used_by_settle ds [] = refl
used_by_settle ds (p ∷ ps) = names_behind ds (used_in ds p.body) (used_by ds ps) (names_in p.body) (flat_map (λ p. names_in p.body) ps) (used_in_settles ds p.body) (used_by_settle ds ps)

mutual
  pub found_settles : (ds : List Declared) (e : Expression Text) → Settles (found ds e) (expression_faults ds e)
  found_settles ds (Register name) = refl
  found_settles ds (Select name i) = at (not (is_index (range_of ds name) i)) (model.BadIndex name)
  found_settles ds (Literal v) = refl
  found_settles ds (Concat parts) =
      behind (found_concat ds parts) (all_found ds parts) (fault_where (nat_lt greatest_width (parts_size ds parts)) model.WideConcat) (all_expression_faults ds parts)
      (at (nat_lt greatest_width (parts_size ds parts)) model.WideConcat) (all_found_settle ds parts)
  found_settles ds (Unary op e) = found_settles ds e
  found_settles ds (Binary op e f) = behind (found ds e) (found ds f) (expression_faults ds e) (expression_faults ds f) (found_settles ds e) (found_settles ds f)
  found_settles ds (Extend by size e) = found_settles ds e
  found_settles ds (Conditional c e f) =
      behind (found ds c) (or_fault (found ds e) (found ds f)) (expression_faults ds c) (expression_faults ds e ++ expression_faults ds f) (found_settles ds c)
      (behind (found ds e) (found ds f) (expression_faults ds e) (expression_faults ds f) (found_settles ds e) (found_settles ds f))

  pub all_found_settle : (ds : List Declared) (es : Expressions Text) → Settles (all_found ds es) (all_expression_faults ds es)
  all_found_settle ds Nothing = refl
  all_found_settle ds (Also e es) = behind (found ds e) (all_found ds es) (expression_faults ds e) (all_expression_faults ds es) (found_settles ds e) (all_found_settle ds es)

delay_settles : (delay : Option ℕ) → Settles (found_delay delay) (delay_faults delay)
delay_settles None = refl
delay_settles (Some delay) = at (nat_lt greatest_delay delay) model.LongDelay

mutual
  pub found_in_settles : (ds : List Declared) (s : source.SourceStatement) → Settles (found_in ds s) (statement_faults ds s)
  found_in_settles ds source.Empty = refl
  found_in_settles ds (source.Block body) = all_found_in_settle ds body
  found_in_settles ds (source.Assign name delay e) =
      behind (found_delay delay) (found ds e) (delay_faults delay) (expression_faults ds e) (delay_settles delay) (found_settles ds e)
  found_in_settles ds (source.AssignLater name delay e) =
      behind (found_delay delay) (found ds e) (delay_faults delay) (expression_faults ds e) (delay_settles delay) (found_settles ds e)
  found_in_settles ds (source.Now name) = refl
  found_in_settles ds (source.Delay delay s) =
      behind (found_delay (Some delay)) (found_in ds s) (delay_faults (Some delay)) (statement_faults ds s) (delay_settles (Some delay)) (found_in_settles ds s)
  found_in_settles ds (source.Await triggers s) = found_in_settles ds s
  found_in_settles ds (source.If c body) =
      behind (found ds c) (all_found_in ds body) (expression_faults ds c) (all_statement_faults ds body) (found_settles ds c) (all_found_in_settle ds body)
  found_in_settles ds (source.IfElse c body otherwise) =
      behind (found ds c) (or_fault (all_found_in ds body) (all_found_in ds otherwise)) (expression_faults ds c) (all_statement_faults ds body ++ all_statement_faults ds otherwise)
      (found_settles ds c)
      (behind (all_found_in ds body) (all_found_in ds otherwise) (all_statement_faults ds body) (all_statement_faults ds otherwise)
      (all_found_in_settle ds body) (all_found_in_settle ds otherwise))
  found_in_settles ds (source.While c body) =
      behind (found ds c) (all_found_in ds body) (expression_faults ds c) (all_statement_faults ds body) (found_settles ds c) (all_found_in_settle ds body)
  found_in_settles ds (source.Print task format arguments) =
      behind (found_format format (count_of arguments)) (all_found ds arguments) (fault_where (not (is_format_for (pieces_of format) (count_of arguments))) model.BadFormat)
      (all_expression_faults ds arguments) (at (not (is_format_for (pieces_of format) (count_of arguments))) model.BadFormat) (all_found_settle ds arguments)
  found_in_settles ds (source.PrintPieces task pieces arguments) =
      behind (found_pieces (Some pieces) (count_of arguments)) (all_found ds arguments) (fault_where (not (is_format_for (Some pieces) (count_of arguments))) model.BadFormat)
      (all_expression_faults ds arguments) (at (not (is_format_for (Some pieces) (count_of arguments))) model.BadFormat) (all_found_settle ds arguments)
  found_in_settles ds source.Finish = refl

  pub all_found_in_settle : (ds : List Declared) (ss : source.SourceStatements) → Settles (all_found_in ds ss) (all_statement_faults ds ss)
  all_found_in_settle ds source.End = refl
  all_found_in_settle ds (source.Then s ss) =
      behind (found_in ds s) (all_found_in ds ss) (statement_faults ds s) (all_statement_faults ds ss) (found_in_settles ds s) (all_found_in_settle ds ss)

pub found_by_settle : (ds : List Declared) (ps : List source.SourceProcess) → Settles (found_by ds ps) (flat_map (λ p. statement_faults ds p.body) ps)
found_by_settle ds [] = refl
found_by_settle ds (p ∷ ps) =
    behind (found_in ds p.body) (found_by ds ps) (statement_faults ds p.body) (flat_map (λ p. statement_faults ds p.body) ps)
    (found_in_settles ds p.body) (found_by_settle ds ps)

-- the processes
pub among_settles : (limits : ModuleLimits) (ds : List Declared) (ps : List source.SourceProcess) → Settles (found_among limits ds ps)
    (fault_where (nat_lt (most_processes limits) (length ps)) model.TooManyProcesses ++
    (flat_map (undeclared ds) (flat_map (λ p. names_in p.body) ps) ++ flat_map (λ p. statement_faults ds p.body) ps))
among_settles limits ds ps =
    let names = flat_map (undeclared ds) (flat_map (λ p. names_in p.body) ps) in
    let rest = flat_map (λ p. statement_faults ds p.body) ps in
    let few = nat_lt (most_processes limits) (length ps) in
    behind (found_where few model.TooManyProcesses) (or_fault (used_by ds ps) (found_by ds ps)) (fault_where few model.TooManyProcesses) (names ++ rest)
    (at few model.TooManyProcesses) (behind (used_by ds ps) (found_by ds ps) names rest (used_by_settle ds ps) (found_by_settle ds ps))

-- the module
pub module_settles : (limits : ModuleLimits) (m : Module) → Settles (found_module limits m) (faults_within limits m)
module_settles limits m =
    behind (found_names limits [] (declared m)) (found_among limits (declared m) m.processes) (declaration_faults limits [] (declared m))
    (fault_where (nat_lt (most_processes limits) (length m.processes)) model.TooManyProcesses ++
    (flat_map (undeclared (declared m)) (flat_map (λ p. names_in p.body) m.processes) ++ flat_map (λ p. statement_faults (declared m) p.body) m.processes))
    (declarations_settle limits [] (declared m)) (among_settles limits (declared m) m.processes)

-- what is told of what was found first is told of the first fault
pub first_fault : (told : ElabFault) (o : Option Fault) (fs : List Fault) → Settles o fs → IsFirstOf told o → IsFirstFault told fs
first_fault told None fs x is = subst (λ t. IsFirstFault t fs) (sym is) tt
first_fault (fault.Undeclared name) (Some f) fs x is = x ∙ cc
first_fault (fault.DeclaredTwice name) (Some f) fs x is = x ∙ cc
first_fault (fault.BadRange name) (Some f) fs x is = x ∙ cc
first_fault fault.TooManyRegisters (Some f) fs x is = x ∙ cc
first_fault fault.TooManyProcesses (Some f) fs x is = x ∙ cc
first_fault fault.BadFormat (Some f) fs x is = x ∙ cc
first_fault fault.WideConcat (Some f) fs x is = x ∙ cc
first_fault (fault.BadIndex name) (Some f) fs x is = x ∙ cc
first_fault fault.LongDelay (Some f) fs x is = x ∙ cc
first_fault fault.Memory (Some f) fs x is = tt

-- What a statement stands for, from what its parts stand for.
use Rattle.std.proofs.Common.{◌≡◌, ℕ, ◌+◌, ◌<◌, ◌≤◌, true, List, [], ◌∷◌, ◌++◌, map, length, get_or, take, Option, Some, None, append_assoc, refl, sym, ap, ◌∙◌, subst}
use Rattle.std.specs.Prelude.{Result, Ok, Err, IfOk}
use Rattle.std.specs.Box.{box_value}
use Rattle.std.specs.declared.boxed.Box.{Box}
use Rattle.std.specs.declared.alloc.Global.{Global}
use Rattle.std.proofs.lemmas.List.{take_more, take_all, map-append}
use Rattle.model.specs.declared.tree.Task.{Task}
use Rattle.model.specs.Syntax as core
use Rattle.model.specs.Syntax.{SourceStatement, registers_of}
use Rattle.model.specs.SourceTrees.{source_expression_of, source_statement_of, source_expressions}
use Rattle.model.specs.declared.tree.SourceStatement as program_core
use Rattle.shaped_trees.specs.declared.shape.Shape.{Shape}
use Rattle.syntax_tree.specs.declared.statements.AssignmentForm.{AssignmentForm}
use Rattle.syntax_tree.specs.declared.statements.AssignmentForm.TheVariants.{Blocking, Nonblocking}
use Rattle.syntax_tree.specs.declared.statements.BlockForm.TheVariants.{Sequential}
use Rattle.syntax_tree.specs.declared.statements.CaseForm.TheVariants as cases
use Rattle.syntax_tree.specs.declared.statements.VerilogStatement as program
use Rattle.syntax_tree.specs.declared.statements.ConditionalBranch as program_branch
use Rattle.syntax_tree.specs.declared.statements.ConditionalBranch.{out-ConditionalBranch}
use Rattle.syntax_tree.specs.declared.statements.CaseItem as program_item
use Rattle.syntax_tree.specs.declared.statements.CaseItem.{out-CaseItem}
use Rattle.syntax_tree.specs.Expressions.{Expression, plain_expression_of}
use Rattle.sizing.specs.Names.{Names}
use Rattle.sizing.specs.Meanings.{meaning, own_shape}
use Rattle.sizing.specs.Typing.{IsLowered, joined_shape, assigned_shape}
use Rattle.statement_forms.specs.Views.{NamedTrigger, core_statements}
use Rattle.statement_forms.specs.declared.choices.Branch.{Branch}
use Rattle.statement_forms.specs.Forms.{PlainBranch, branch_of, block, while_true, forever, for_loop, repeat_loop, wait_until, happens, if_chain, any_fits, case_of}
use Rattle.statement_parts.specs.declared.faults.StatementFault.{StatementFault}
use Rattle.statement_parts.specs.Statements as plain
use Rattle.statement_parts.specs.Statements.{SourceText, PlainStatement, PlainStatements, PlainBranches, PlainOtherwise, PlainItems, PlainControl, PlainTiming, PlainAssignment, PlainItem, plain_of, plain_all_of, plain_branches_of, plain_branch_of, plain_items_of, plain_item_of, otherwise_of}
use Rattle.statement_parts.specs.Surroundings.{Surroundings, inner_scope}
use Rattle.statement_parts.specs.Parts.{IsTargetOf, IsGivenDelay, whole_change}
use Rattle.statement_parts.proofs.Meant.{NamesEvent}
use Rattle.lowering.specs.Hidden.{HiddenList, Makes}
use Rattle.lowering.specs.Prints.{Arguments, Shown, task_of, IsPrint}
use Rattle.lowering.specs.Lowering.{IsSelfLowered, case_shape, count_tree, AreLowered, none_lowered, one_lowered, CaseMade, nothing_made, IsPartAdded, AddsItem, Lowers, lowers_block, lowers_assignment, gives_time, lowers_time, lowers_later, lowers_delayed, lowers_awaited, lowers_wait, lowers_if, lowers_case, lowers_for, lowers_repeat, lowers_while, lowers_forever, lowers_trigger, lowers_print, lowers_finish, lowers_dump, LowersAll, lowers_none, LowersBranches, no_branch, LowersOtherwise, no_else, one_else, LowersItems, no_item, IsDelayed, IsAwaited, IsWaitLoop, IsWhile, IsFor, IsRepeat}
use Rattle.lowering.proofs.Lowered.{all_push, branches_push, items_push, default_push}
use Rattle.lowering.proofs.Shapes.{selector_in}
use Rattle.statement_parts.proofs.Nodes.{viewed_item, viewed_branch}
use Rattle.lowering.proofs.Variables.{makes_none, makes_map, makes_both}

-- a statement that is this one
pub stands : (d : Surroundings) (old new : HiddenList) (scope : ℕ) (source other : PlainStatement) (made : SourceStatement) → source ≡ other → Makes old new (Lowers d scope other made) → Makes old new (Lowers d scope source made)
stands d old new scope source other made e h = subst (λ (s : PlainStatement). Makes old new (Lowers d scope s made)) (sym e) h

-- what it is lowered to, by an equation
lowered_to : (d : Surroundings) (scope : ℕ) (source : PlainStatement) (made other : SourceStatement) (used : HiddenList) → made ≡ other → Lowers d scope source other used → Lowers d scope source made used
lowered_to d scope source made other used e h = subst (λ (s : SourceStatement). Lowers d scope source s used) (sym e) h

-- ---- statements without statements in them

-- target = value
pub assigned : (d : Surroundings) (n : Names) (scope at width : ℕ) (target value : Expression) (timing : Option PlainTiming) (name : SourceText) (delay : Option ℕ) (made : core.Expression SourceText) (s : SourceStatement) → n ≡ d.names scope
    → IsTargetOf n target name width → IsGivenDelay n timing delay → IsLowered n (meaning n value) (assigned_shape (meaning n value) width) made → s ≡ core.Assign name delay made
    → Lowers d scope (plain.Assignment at Blocking target timing value) s []
assigned d n scope at width target value timing name delay made s e is after right same =
    lowered_to d scope (plain.Assignment at Blocking target timing value) s (core.Assign name delay made) [] same
    (lowers_assignment scope at width target value timing name delay made
    (subst (λ (k : Names). IsTargetOf k target name width) e is)
    (subst (λ (k : Names). IsGivenDelay k timing delay) e after)
    (subst (λ (k : Names). IsLowered k (meaning k value) (assigned_shape (meaning k value) width) made) e right))

-- target = $time
pub timed : (d : Surroundings) (n : Names) (scope at width : ℕ) (target value : Expression) (name : SourceText) (s : SourceStatement) (form : AssignmentForm) (delay : Option ℕ) (timing : Option PlainTiming) → n ≡ d.names scope
    → IsTargetOf n target name width → IsGivenDelay n timing delay → gives_time form delay value ≡ true → s ≡ core.Now name → Lowers d scope (plain.Assignment at form target timing value) s []
timed d n scope at width target value name s Blocking None None e is after time same =
    lowered_to d scope (plain.Assignment at Blocking target None value) s (core.Now name) [] same (lowers_time scope at width target value name (subst (λ (k : Names). IsTargetOf k target name width) e is) time)
timed d n scope at width target value name s Blocking None (Some (plain.AfterDelay x)) e is after time same = absurd after
timed d n scope at width target value name s Blocking None (Some (plain.AfterEvent c)) e is after time same = absurd after
timed d n scope at width target value name s Blocking None (Some (plain.AfterEvents k c)) e is after time same = absurd after
timed d n scope at width target value name s Blocking (Some x) timing e is after time same = absurd (cc time)
timed d n scope at width target value name s Nonblocking delay timing e is after time same = absurd (cc time)

-- target <= value
pub assigned_later : (d : Surroundings) (n : Names) (scope at width : ℕ) (target value : Expression) (timing : Option PlainTiming) (name : SourceText) (delay : Option ℕ) (made : core.Expression SourceText) (s : SourceStatement) → n ≡ d.names scope
    → IsTargetOf n target name width → IsGivenDelay n timing delay → IsLowered n (meaning n value) (assigned_shape (meaning n value) width) made → s ≡ core.AssignLater name delay made
    → Lowers d scope (plain.Assignment at Nonblocking target timing value) s []
assigned_later d n scope at width target value timing name delay made s e is after right same =
    lowered_to d scope (plain.Assignment at Nonblocking target timing value) s (core.AssignLater name delay made) [] same
    (lowers_later scope at width target value timing name delay made
    (subst (λ (k : Names). IsTargetOf k target name width) e is)
    (subst (λ (k : Names). IsGivenDelay k timing delay) e after)
    (subst (λ (k : Names). IsLowered k (meaning k value) (assigned_shape (meaning k value) width) made) e right))

-- -> event
pub event_happens : (d : Surroundings) (scope at : ℕ) (e : Expression) (name : SourceText) (s : SourceStatement) → NamesEvent d scope e name → s ≡ happens name → Lowers d scope (plain.Trigger at e) s []
event_happens d scope at e name s is same =
    lowered_to d scope (plain.Trigger at e) s (happens name) [] same (lowers_trigger scope at e name is.object is.event is.named)

-- $finish and $stop
pub finished : (d : Surroundings) (scope at : ℕ) (name : SourceText) (arguments : Arguments) (s : SourceStatement) → plain.EndsRun name → s ≡ core.Finish → Lowers d scope (plain.SystemTaskCall at name arguments) s []
finished d scope at name arguments s ends same = lowered_to d scope (plain.SystemTaskCall at name arguments) s core.Finish [] same (lowers_finish scope at name arguments ends)

-- a task that writes waves
pub dumped : (d : Surroundings) (scope at : ℕ) (name : SourceText) (arguments : Arguments) (s : SourceStatement) → plain.is_dump_task name ≡ true → s ≡ core.Empty → Lowers d scope (plain.SystemTaskCall at name arguments) s []
dumped d scope at name arguments s is same = lowered_to d scope (plain.SystemTaskCall at name arguments) s core.Empty [] same (lowers_dump scope at name arguments is)

-- a task that prints
pub printed : (d : Surroundings) (n : Names) (path : SourceText) (scope at : ℕ) (name : SourceText) (task : Task) (arguments : Arguments) (shown : Shown) (s : SourceStatement) → n ≡ d.names scope → path ≡ d.path scope → task_of name ≡ Some task
    → IsPrint n path arguments shown → s ≡ core.PrintPieces task shown.0 (source_expressions shown.1) → Lowers d scope (plain.SystemTaskCall at name arguments) s []
printed d n path scope at name task arguments shown s e f is prints same =
    lowered_to d scope (plain.SystemTaskCall at name arguments) s (core.PrintPieces task shown.0 (source_expressions shown.1)) [] same
    (lowers_print scope at name task arguments shown is
    (subst (λ (p : SourceText). IsPrint (d.names scope) p arguments shown) f (subst (λ (k : Names). IsPrint k path arguments shown) e prints)))

-- ---- one statement in another

pub delayed_step : (d : Surroundings) (old new : HiddenList) (scope at : ℕ) (e : Expression) (body : PlainStatement) (t made : SourceStatement) → Makes old new (Lowers d scope body t) → IsDelayed d scope e t made
    → Makes old new (Lowers d scope (plain.Delayed at e body) made)
delayed_step d old new scope at e body t made h is =
    makes_map old new (Lowers d scope body t) (Lowers d scope (plain.Delayed at e body) made)
    (λ used l. lowered_to d scope (plain.Delayed at e body) made (core.Delay is.0 t) used is.2 (lowers_delayed scope at is.0 e body t used is.1 l)) h

pub awaited_step : (d : Surroundings) (old new : HiddenList) (scope at : ℕ) (control : PlainControl) (body : PlainStatement) (t made : SourceStatement) → Makes old new (Lowers d scope body t) → IsAwaited d scope control body t made
    → Makes old new (Lowers d scope (plain.Awaited at control body) made)
awaited_step d old new scope at control body t made h is =
    makes_map old new (Lowers d scope body t) (Lowers d scope (plain.Awaited at control body) made)
    (λ used l. lowered_to d scope (plain.Awaited at control body) made (core.Await is.0 t) used is.2 (lowers_awaited scope at control is.0 body t used is.1 l)) h

pub wait_step : (d : Surroundings) (old new : HiddenList) (scope at : ℕ) (condition : Expression) (body : PlainStatement) (t made : SourceStatement) → Makes old new (Lowers d scope body t) → IsWaitLoop d scope condition t made
    → Makes old new (Lowers d scope (plain.Wait at condition body) made)
wait_step d old new scope at condition body t made h is =
    makes_map old new (Lowers d scope body t) (Lowers d scope (plain.Wait at condition body) made)
    (λ used l. lowered_to d scope (plain.Wait at condition body) made (wait_until is.0 (map whole_change (registers_of is.0)) t) used is.2 (lowers_wait scope at condition is.0 body t used is.1 l)) h

pub while_step : (d : Surroundings) (old new : HiddenList) (scope at : ℕ) (condition : Expression) (body : PlainStatement) (t made : SourceStatement) → Makes old new (Lowers d scope body t) → IsWhile d scope condition t made
    → Makes old new (Lowers d scope (plain.While at condition body) made)
while_step d old new scope at condition body t made h is =
    makes_map old new (Lowers d scope body t) (Lowers d scope (plain.While at condition body) made)
    (λ used l. lowered_to d scope (plain.While at condition body) made (while_true is.0 (t ∷ [])) used is.2 (lowers_while scope at condition is.0 body t used is.1 l)) h

pub forever_step : (d : Surroundings) (old new : HiddenList) (scope at : ℕ) (body : PlainStatement) (t made : SourceStatement) → Makes old new (Lowers d scope body t) → made ≡ forever t
    → Makes old new (Lowers d scope (plain.Forever at body) made)
forever_step d old new scope at body t made h is =
    makes_map old new (Lowers d scope body t) (Lowers d scope (plain.Forever at body) made)
    (λ used l. lowered_to d scope (plain.Forever at body) made (forever t) used is (lowers_forever scope at body t used l)) h

pub for_step : (d : Surroundings) (old new : HiddenList) (scope at : ℕ) (start step : PlainAssignment) (condition : Expression) (body : PlainStatement) (t made : SourceStatement) → Makes old new (Lowers d scope body t)
    → IsFor d scope start condition step t made → Makes old new (Lowers d scope (plain.For at start condition step body) made)
for_step d old new scope at start step condition body t made h is =
    makes_map old new (Lowers d scope body t) (Lowers d scope (plain.For at start condition step body) made)
    (λ used l. lowered_to d scope (plain.For at start condition step body) made (for_loop is.0 is.2 is.1 t) used is.6 (lowers_for scope at start step condition is.2 body is.0 is.1 t used is.3 is.4 is.5 l)) h

-- a repeat that is lowered, by the hidden variable of its count
repeats : (d : Surroundings) (scope at : ℕ) (count : Expression) (body : PlainStatement) (t made : SourceStatement) (used more : HiddenList) → Lowers d scope body t used → IsRepeat d scope count t made more → Lowers d scope (plain.Repeat at count body) made (used ++ more)
repeats d scope at count body t made used more l is =
    let tree = count_tree (meaning (d.names scope) count).signed (meaning (d.names scope) count).size is.1 in
    lowered_to d scope (plain.Repeat at count body) made (repeat_loop is.0 tree t) (used ++ more) is.4
    (subst (λ (us : HiddenList). Lowers d scope (plain.Repeat at count body) (repeat_loop is.0 tree t) (used ++ us)) (sym is.2) (lowers_repeat scope at is.0 count is.1 body t used is.3 l))

pub repeat_step : (d : Surroundings) (old mid new : HiddenList) (scope at : ℕ) (count : Expression) (body : PlainStatement) (t made : SourceStatement) → Makes old mid (Lowers d scope body t) → Makes mid new (IsRepeat d scope count t made)
    → Makes old new (Lowers d scope (plain.Repeat at count body) made)
repeat_step d old mid new scope at count body t made h is =
    makes_both old mid new (Lowers d scope body t) (IsRepeat d scope count t made) (Lowers d scope (plain.Repeat at count body) made) (λ used more l r. repeats d scope at count body t made used more l r) h is

-- whatever a call made of it
pub step_ok : (d : Surroundings) (old new : HiddenList) (scope : ℕ) (source : PlainStatement) (P : SourceStatement → Type 0) (r : Result program_core.SourceStatement StatementFault)
    → ((made : SourceStatement) → P made → Makes old new (Lowers d scope source made)) → IfOk r (λ made. P (source_statement_of made)) → IfOk r (λ made. Makes old new (Lowers d scope source (source_statement_of made)))
step_ok d old new scope source P (Ok made) f h = f (source_statement_of made) h
step_ok d old new scope source P (Err fault) f h = tt

pub repeat_ok : (d : Surroundings) (old mid new : HiddenList) (scope at : ℕ) (count : Expression) (source body : PlainStatement) (t : SourceStatement) (r : Result program_core.SourceStatement StatementFault) → source ≡ plain.Repeat at count body
    → Makes old mid (Lowers d scope body t) → IfOk r (λ made. Makes mid new (IsRepeat d scope count t (source_statement_of made)))
    → IfOk r (λ made. Makes old new (Lowers d scope source (source_statement_of made)))
repeat_ok d old mid new scope at count source body t (Ok made) e h is =
    stands d old new scope source (plain.Repeat at count body) (source_statement_of made) e (repeat_step d old mid new scope at count body t (source_statement_of made) h is)
repeat_ok d old mid new scope at count source body t (Err fault) e h is = tt

-- a block
pub block_step : (d : Surroundings) (old new : HiddenList) (scope inner at : ℕ) (name : Option SourceText) (body : PlainStatements) (ts : List SourceStatement) (made : SourceStatement) → inner_scope d scope name ≡ Some inner
    → Makes old new (LowersAll d inner body ts) → made ≡ block ts → Makes old new (Lowers d scope (plain.Block at Sequential name body) made)
block_step d old new scope inner at name body ts made is h same =
    makes_map old new (LowersAll d inner body ts) (Lowers d scope (plain.Block at Sequential name body) made)
    (λ used l. lowered_to d scope (plain.Block at Sequential name body) made (block ts) used same (lowers_block scope inner at name body ts used is l)) h

-- an if
pub if_step : (d : Surroundings) (old mid new : HiddenList) (scope at : ℕ) (branches : PlainBranches) (otherwise : PlainOtherwise) (bs : List PlainBranch) (last ts : List SourceStatement) (made : SourceStatement)
    → Makes old mid (LowersBranches d scope branches bs) → Makes mid new (LowersOtherwise d scope otherwise last) → ts ≡ if_chain bs last → made ≡ block ts → Makes old new (Lowers d scope (plain.If at branches otherwise) made)
if_step d old mid new scope at branches otherwise bs last ts made h k chosen same =
    makes_both old mid new (LowersBranches d scope branches bs) (LowersOtherwise d scope otherwise last) (Lowers d scope (plain.If at branches otherwise) made)
    (λ used more l m. lowered_to d scope (plain.If at branches otherwise) made (block (if_chain bs last)) (used ++ more) (same ∙ ap block chosen) (lowers_if scope at branches otherwise bs last used more l m)) h k

-- a case
pub case_step : (d : Surroundings) (n : Names) (old mid new : HiddenList) (scope at : ℕ) (name : SourceText) (selector : Expression) (tree : core.Expression SourceText) (items : PlainItems) (shape : Shape) (bs : List PlainBranch) (last : List SourceStatement) (made : SourceStatement)
    → n ≡ d.names scope → shape ≡ case_shape n selector items → IsLowered n (meaning n selector) (joined_shape (own_shape (meaning n selector)) shape) tree → mid ≡ old ++ (name, shape.width) ∷ []
    → Makes mid new (LowersItems d scope shape name items bs last) → made ≡ case_of name tree bs last → Makes old new (Lowers d scope (plain.Case at cases.Case selector items) made)
case_step d n old mid new scope at name selector tree items shape bs last made e is h pushed k same =
    let f : shape ≡ case_shape (d.names scope) selector items = is ∙ ap (λ (x : Names). case_shape x selector items) e in
    let taken : IsLowered n (meaning n selector) shape tree = subst (λ (s : Shape). IsLowered n (meaning n selector) s tree) (selector_in n selector items shape is) h in
    let at_scope : IsLowered (d.names scope) (meaning (d.names scope) selector) shape tree = subst (λ (x : Names). IsLowered x (meaning x selector) shape tree) e taken in
    let lowered : Lowers d scope (plain.Case at cases.Case selector items) (case_of name tree bs last) ((name, (case_shape (d.names scope) selector items).width) ∷ k.0) =
    lowers_case scope at name selector tree items bs last k.0 (subst (λ (s : Shape). IsLowered (d.names scope) (meaning (d.names scope) selector) s tree) f at_scope)
    (subst (λ (s : Shape). LowersItems d scope s name items bs last k.0) f k.2) in (
      (name, shape.width) ∷ k.0,
      k.1 ∙ ap (λ (xs : HiddenList). xs ++ k.0) pushed ∙ append_assoc old ((name, shape.width) ∷ []) k.0,
      lowered_to d scope (plain.Case at cases.Case selector items) made (case_of name tree bs last) ((name, shape.width) ∷ k.0) same
          (subst (λ (s : Shape). Lowers d scope (plain.Case at cases.Case selector items) (case_of name tree bs last) ((name, s.width) ∷ k.0)) (sym f) lowered),
    )

-- ---- lists of which one more is lowered

pub all_more : (d : Surroundings) (old mid new : HiddenList) (scope : ℕ) (xs : List program.VerilogStatement) (i : ℕ) (x : program.VerilogStatement) (ts us : List program_core.SourceStatement) (t : program_core.SourceStatement) → i < length xs → x ≡ get_or xs i x
    → Makes old mid (LowersAll d scope (plain_all_of (take i xs)) (map source_statement_of ts)) → Makes mid new (Lowers d scope (plain_of x) (source_statement_of t)) → us ≡ ts ++ t ∷ []
    → Makes old new (LowersAll d scope (plain_all_of (take (i + 1) xs)) (map source_statement_of us))
all_more d old mid new scope xs i x ts us t h is so next pushed =
    let taken : map plain_of (take (i + 1) xs) ≡ map plain_of (take i xs) ++ plain_of x ∷ [] =
    ap (map plain_of) (take_more xs i x h ∙ ap (λ (y : program.VerilogStatement). take i xs ++ y ∷ []) (sym is)) ∙ map-append plain_of (take i xs) (x ∷ []) in
    let made : map source_statement_of us ≡ map source_statement_of ts ++ source_statement_of t ∷ [] = ap (map source_statement_of) pushed ∙ map-append source_statement_of ts (t ∷ []) in
    subst (λ (ys : List SourceStatement). Makes old new (LowersAll d scope (plain_all_of (take (i + 1) xs)) ys)) (sym made)
    (subst (λ (ps : List PlainStatement). Makes old new (LowersAll d scope (plain.plain_statements ps) (map source_statement_of ts ++ source_statement_of t ∷ []))) (sym taken)
    (makes_both old mid new (LowersAll d scope (plain_all_of (take i xs)) (map source_statement_of ts)) (Lowers d scope (plain_of x) (source_statement_of t))
    (LowersAll d scope (plain.plain_statements (map plain_of (take i xs) ++ plain_of x ∷ [])) (map source_statement_of ts ++ source_statement_of t ∷ []))
    (λ used more l m. all_push d scope (map plain_of (take i xs)) (map source_statement_of ts) used (plain_of x) (source_statement_of t) more l m) so next))

pub branches_more : (d : Surroundings) (old mid new : HiddenList) (scope : ℕ) (xs : List program_branch.ConditionalBranch) (i : ℕ) (x : program_branch.ConditionalBranch) (ts us : List Branch) (b : Branch) (t : SourceStatement) → i < length xs → x ≡ get_or xs i x
    → Makes old mid (LowersBranches d scope (plain_branches_of (take i xs)) (map branch_of ts)) → IsSelfLowered (d.names scope) (plain_expression_of (out-ConditionalBranch x).condition) (source_expression_of b.condition)
    → Makes mid new (Lowers d scope (plain_of (out-ConditionalBranch x).body) t) → core_statements b.body ≡ t ∷ [] → us ≡ ts ++ b ∷ []
    → Makes old new (LowersBranches d scope (plain_branches_of (take (i + 1) xs)) (map branch_of us))
branches_more d old mid new scope xs i x ts us b t h is so tests next made pushed =
    let condition = plain_expression_of (out-ConditionalBranch x).condition in
    let body = plain_of (out-ConditionalBranch x).body in
    let tree = source_expression_of b.condition in
    let taken : map plain_branch_of (take (i + 1) xs) ≡ map plain_branch_of (take i xs) ++ (condition, body) ∷ [] =
    ap (map plain_branch_of) (take_more xs i x h ∙ ap (λ (y : program_branch.ConditionalBranch). take i xs ++ y ∷ []) (sym is)) ∙ map-append plain_branch_of (take i xs) (x ∷ [])
    ∙ ap (λ (p : Expression × PlainStatement). map plain_branch_of (take i xs) ++ p ∷ []) (viewed_branch x) in
    let made_is : map branch_of us ≡ map branch_of ts ++ (tree, t ∷ []) ∷ [] =
    ap (map branch_of) pushed ∙ map-append branch_of ts (b ∷ []) ∙ ap (λ (ss : List SourceStatement). map branch_of ts ++ (tree, ss) ∷ []) made in
    subst (λ (ys : List PlainBranch). Makes old new (LowersBranches d scope (plain_branches_of (take (i + 1) xs)) ys)) (sym made_is)
    (subst (λ (ps : List (Expression × PlainStatement)). Makes old new (LowersBranches d scope (plain.plain_branches ps) (map branch_of ts ++ (tree, t ∷ []) ∷ []))) (sym taken)
    (makes_both old mid new (LowersBranches d scope (plain_branches_of (take i xs)) (map branch_of ts)) (Lowers d scope body t)
    (LowersBranches d scope (plain.plain_branches (map plain_branch_of (take i xs) ++ (condition, body) ∷ [])) (map branch_of ts ++ (tree, t ∷ []) ∷ []))
    (λ used more l m. branches_push d scope (map plain_branch_of (take i xs)) (map branch_of ts) used condition tree body t more l tests m) so next))

items_taken : (xs : List program_item.CaseItem) (i : ℕ) (x : program_item.CaseItem) → i < length xs → x ≡ get_or xs i x → map plain_item_of (take (i + 1) xs) ≡ map plain_item_of (take i xs) ++ plain_item_of x ∷ []
items_taken xs i x h is = ap (map plain_item_of) (take_more xs i x h ∙ ap (λ (y : program_item.CaseItem). take i xs ++ y ∷ []) (sym is)) ∙ map-append plain_item_of (take i xs) (x ∷ [])

-- labels of which none fits are none
no_labels : (n : Names) (shape : Shape) (hidden : SourceText) (labels : List Expression) (trees : List (core.Expression SourceText)) → AreLowered n shape labels trees → any_fits hidden trees None ≡ None → labels ≡ []
no_labels n shape hidden [] _ none_lowered e = refl
no_labels n shape hidden (l ∷ ls) _ (one_lowered _ _ _ _ one rest) e = absurd (cc)

-- an item behind others, as it is added
item_added : (d : Surroundings) (scope : ℕ) (shape : Shape) (hidden : SourceText) (items : List PlainItem) (item : PlainItem) (trees : List (core.Expression SourceText)) (t : SourceStatement) (before behind : CaseMade) (o : Option (core.Expression SourceText)) (used more : HiddenList)
    → AreLowered (d.names scope) shape item.labels trees → any_fits hidden trees None ≡ o → IsPartAdded o t before behind → LowersItems d scope shape hidden (plain.plain_items items) before.0 before.1 used → Lowers d scope item.body t more
    → LowersItems d scope shape hidden (plain.plain_items (items ++ item ∷ [])) behind.0 behind.1 (used ++ more)
item_added d scope shape hidden items item trees t before behind (Some condition) used more are e same lowered body =
    subst (λ (m : CaseMade). LowersItems d scope shape hidden (plain.plain_items (items ++ item ∷ [])) m.0 m.1 (used ++ more)) (sym same)
    (items_push d scope shape hidden items before.0 before.1 used item trees condition t more lowered are e body)
item_added d scope shape hidden items item trees t before behind None used more are e same lowered body =
    let without : item ≡ record { at = item.at; labels = []; body = item.body } =
    ap (λ (ls : List Expression). record { at = item.at; labels = ls; body = item.body }) (no_labels (d.names scope) shape hidden item.labels trees are e) in
    subst (λ (m : CaseMade). LowersItems d scope shape hidden (plain.plain_items (items ++ item ∷ [])) m.0 m.1 (used ++ more)) (sym same.1)
    (subst (λ (p : PlainItem). LowersItems d scope shape hidden (plain.plain_items (items ++ p ∷ [])) before.0 (t ∷ []) (used ++ more)) (sym without)
    (default_push d scope shape hidden items before.0 used item.at item.body t more
    (subst (λ (ys : List SourceStatement). LowersItems d scope shape hidden (plain.plain_items items) before.0 ys used) same.0 lowered) body))

pub items_more : (d : Surroundings) (old mid new : HiddenList) (scope : ℕ) (shape : Shape) (hidden : SourceText) (xs : List program_item.CaseItem) (i : ℕ) (x : program_item.CaseItem) (before behind : CaseMade) (t : SourceStatement) → i < length xs → x ≡ get_or xs i x
    → Makes old mid (LowersItems d scope shape hidden (plain_items_of (take i xs)) before.0 before.1) → Makes mid new (Lowers d scope (plain_of (out-CaseItem x).body) t) → AddsItem d scope shape hidden (plain_item_of x).labels t before behind
    → Makes old new (LowersItems d scope shape hidden (plain_items_of (take (i + 1) xs)) behind.0 behind.1)
items_more d old mid new scope shape hidden xs i x before behind t h is so next adds =
    let body : Makes mid new (Lowers d scope (plain_item_of x).body t) = subst (λ (s : PlainStatement). Makes mid new (Lowers d scope s t)) (sym (ap (λ (p : PlainItem). p.body) (viewed_item x))) next in
    subst (λ (ps : List PlainItem). Makes old new (LowersItems d scope shape hidden (plain.plain_items ps) behind.0 behind.1)) (sym (items_taken xs i x h is))
    (makes_both old mid new (LowersItems d scope shape hidden (plain_items_of (take i xs)) before.0 before.1) (Lowers d scope (plain_item_of x).body t)
    (LowersItems d scope shape hidden (plain.plain_items (map plain_item_of (take i xs) ++ plain_item_of x ∷ [])) behind.0 behind.1)
    (λ used more l m. item_added d scope shape hidden (map plain_item_of (take i xs)) (plain_item_of x) adds.0 t before behind (any_fits hidden adds.0 None) used more adds.1 refl adds.2 l m) so body)

-- ---- none yet, and all

pub all_start : (d : Surroundings) (old : HiddenList) (scope : ℕ) (made : List program_core.SourceStatement) → made ≡ [] → Makes old old (LowersAll d scope (plain_all_of []) (map source_statement_of made))
all_start d old scope made e =
    subst (λ (ts : List program_core.SourceStatement). Makes old old (LowersAll d scope (plain_all_of []) (map source_statement_of ts))) (sym e) (makes_none old (LowersAll d scope (plain_all_of []) []) (lowers_none scope))

pub branches_start : (d : Surroundings) (old : HiddenList) (scope : ℕ) (made : List Branch) → made ≡ [] → Makes old old (LowersBranches d scope (plain_branches_of []) (map branch_of made))
branches_start d old scope made e =
    subst (λ (bs : List Branch). Makes old old (LowersBranches d scope (plain_branches_of []) (map branch_of bs))) (sym e) (makes_none old (LowersBranches d scope (plain_branches_of []) []) (no_branch scope))

pub items_start : (d : Surroundings) (old : HiddenList) (scope : ℕ) (shape : Shape) (name : SourceText) (made : CaseMade) → made ≡ nothing_made → Makes old old (LowersItems d scope shape name (plain_items_of []) made.0 made.1)
items_start d old scope shape name made e =
    subst (λ (m : CaseMade). Makes old old (LowersItems d scope shape name (plain_items_of []) m.0 m.1)) (sym e) (makes_none old (LowersItems d scope shape name (plain_items_of []) [] []) (no_item scope shape name))

pub all_end : (d : Surroundings) (old new : HiddenList) (scope : ℕ) (xs : List program.VerilogStatement) (i : ℕ) (made : List SourceStatement) → length xs ≤ i → Makes old new (LowersAll d scope (plain_all_of (take i xs)) made)
    → Makes old new (LowersAll d scope (plain_all_of xs) made)
all_end d old new scope xs i made h so = subst (λ (ys : List program.VerilogStatement). Makes old new (LowersAll d scope (plain_all_of ys) made)) (take_all i xs h) so

pub branches_end : (d : Surroundings) (old new : HiddenList) (scope : ℕ) (xs : List program_branch.ConditionalBranch) (i : ℕ) (made : List PlainBranch) → length xs ≤ i → Makes old new (LowersBranches d scope (plain_branches_of (take i xs)) made)
    → Makes old new (LowersBranches d scope (plain_branches_of xs) made)
branches_end d old new scope xs i made h so = subst (λ (ys : List program_branch.ConditionalBranch). Makes old new (LowersBranches d scope (plain_branches_of ys) made)) (take_all i xs h) so

pub items_end : (d : Surroundings) (old new : HiddenList) (scope : ℕ) (shape : Shape) (name : SourceText) (xs : List program_item.CaseItem) (i : ℕ) (made : CaseMade) → length xs ≤ i → Makes old new (LowersItems d scope shape name (plain_items_of (take i xs)) made.0 made.1)
    → Makes old new (LowersItems d scope shape name (plain_items_of xs) made.0 made.1)
items_end d old new scope shape name xs i made h so = subst (λ (ys : List program_item.CaseItem). Makes old new (LowersItems d scope shape name (plain_items_of ys) made.0 made.1)) (take_all i xs h) so

-- ---- the last else

pub else_lowered : (d : Surroundings) (old new : HiddenList) (scope : ℕ) (o : Option (Box program.VerilogStatement Global)) (body : Box program.VerilogStatement Global) (t : SourceStatement) (last : List SourceStatement) → o ≡ Some body
    → Makes old new (Lowers d scope (plain_of (box_value body)) t) → last ≡ t ∷ [] → Makes old new (LowersOtherwise d scope (otherwise_of o) last)
else_lowered d old new scope o body t last is h e =
    subst (λ (x : Option (Box program.VerilogStatement Global)). Makes old new (LowersOtherwise d scope (otherwise_of x) last)) (sym is)
    (subst (λ (ts : List SourceStatement). Makes old new (LowersOtherwise d scope (otherwise_of (Some body)) ts)) (sym e)
    (makes_map old new (Lowers d scope (plain_of (box_value body)) t) (LowersOtherwise d scope (plain.Else (plain_of (box_value body))) (t ∷ [])) (λ used l. one_else scope (plain_of (box_value body)) t used l) h))

pub no_else_lowered : (d : Surroundings) (old : HiddenList) (scope : ℕ) (o : Option (Box program.VerilogStatement Global)) (last : List SourceStatement) → o ≡ None → last ≡ [] → Makes old old (LowersOtherwise d scope (otherwise_of o) last)
no_else_lowered d old scope o last is e =
    subst (λ (x : Option (Box program.VerilogStatement Global)). Makes old old (LowersOtherwise d scope (otherwise_of x) last)) (sym is)
    (subst (λ (ts : List SourceStatement). Makes old old (LowersOtherwise d scope plain.NoElse ts)) (sym e) (makes_none old (LowersOtherwise d scope plain.NoElse []) (no_else scope)))

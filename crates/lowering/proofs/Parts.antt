-- What the parts of statements are, as the calls tell it.
use Rattle.std.proofs.Common.{◌≡◌, ◌≢◌, ℕ, List, [], ◌∷◌, ◌++◌, map, Option, Some, None, option_map, Result, Ok, Err, refl, sym, ap, ◌∙◌, subst}
use Rattle.std.specs.Prelude.{String, string_bytes, IfOk, OnOk}
use Rattle.std.specs.declared.vec.Vec.{Vec}
use Rattle.std.specs.declared.alloc.Global.{Global}
use Rattle.std.proofs.lemmas.List.{map-append}
use Rattle.model.specs.Syntax as core
use Rattle.model.specs.Syntax.{SourceStatement}
use Rattle.model.specs.SourceTrees.{source_statement_of, source_statement_node}
use Rattle.model.specs.declared.tree.EventExpression as program_event
use Rattle.model.specs.declared.tree.SourceStatement as program_core
use Rattle.model.specs.declared.tree.SourceStatement.{fold-roll-SourceStatement}
use Rattle.model.specs.declared.tree.SourceStatement.TheOpen.{SourceStatement-F}
use Rattle.model.specs.declared.tree.SourceStatement.TheVariants as form
use Rattle.model.specs.declared.tree.SourceStatement.TheVariants.{rolls-Empty, rolls-Finish}
use Rattle.shaped_trees.specs.declared.shape.Shape.{Shape}
use Rattle.syntax_tree.specs.declared.expressions.VerilogExpression as program_expression
use Rattle.syntax_tree.specs.declared.statements.CaseItem as program_item
use Rattle.syntax_tree.specs.declared.statements.CaseItem.{out-CaseItem}
use Rattle.syntax_tree.specs.declared.statements.EventControl as program_control
use Rattle.syntax_tree.specs.declared.statements.EventControl.TheVariants as controls
use Rattle.syntax_tree.specs.declared.statements.VerilogEvent as source_event
use Rattle.syntax_tree.specs.Expressions.{Expression, plain_expression_of}
use Rattle.sizing.specs.Names.{Names}
use Rattle.sizing.specs.Meanings.{meaning, own_shape}
use Rattle.sizing.specs.Typing.{IsLowered}
use Rattle.statement_forms.specs.Views.{core_triggers}
use Rattle.statement_forms.specs.declared.choices.Branch.{Branch}
use Rattle.statement_forms.specs.Forms.{PlainBranch, branch_of, any_fits, repeat_loop}
use Rattle.statement_parts.specs.declared.faults.StatementFault.{StatementFault}
use Rattle.statement_parts.specs.Statements as plain
use Rattle.statement_parts.specs.Statements.{SourceText, PlainStatement, plain_control, plain_event, plain_item_of}
use Rattle.statement_parts.specs.Surroundings.{Surroundings}
use Rattle.statement_parts.specs.Parts.{AreWaitedEvents, AreControlEvents, event_named}
use Rattle.lowering.specs.Hidden.{HiddenList, Makes}
use Rattle.lowering.specs.Lowering.{IsSelfLowered, TakesAllIn, AreLowered, count_tree, Lowers, lowers_empty, IsRepeat, CaseMade, IsPartAdded, AddsItem}
use Rattle.statement_parts.proofs.Meant.{NamesEvent, event_is_named}
use Rattle.statement_parts.proofs.Nodes.{viewed_item}

-- ---- expressions

-- an expression on its own, at a place
pub self_lowered : (n k : Names) (e : Expression) (t : core.Expression SourceText) → n ≡ k → IsLowered n (meaning n e) (own_shape (meaning n e)) t → IsSelfLowered k e t
self_lowered n k e t same h = subst (λ (x : Names). IsSelfLowered x e t) same h

-- the labels of an item, at a place
pub item_labels : (n k : Names) (shape : Shape) (item : program_item.CaseItem) (xs : List program_expression.VerilogExpression) (trees : List (core.Expression SourceText)) → n ≡ k → xs ≡ (out-CaseItem item).labels.items → AreLowered n shape (map plain_expression_of xs) trees
    → AreLowered k shape (plain_item_of item).labels trees
item_labels n k shape item xs trees same is h =
    subst (λ (es : List Expression). AreLowered k shape es trees) (ap (map plain_expression_of) is ∙ sym (ap (λ p. p.labels) (viewed_item item)))
    (subst (λ (x : Names). AreLowered x shape (map plain_expression_of xs) trees) same h)

pub item_takes : (n k : Names) (shape : Shape) (item : program_item.CaseItem) (xs : List program_expression.VerilogExpression) → n ≡ k → xs ≡ (out-CaseItem item).labels.items → TakesAllIn k shape (plain_item_of item).labels
    → TakesAllIn n shape (map plain_expression_of xs)
item_takes n k shape item xs same is h =
    subst (λ (x : Names). TakesAllIn x shape (map plain_expression_of xs)) (sym same)
    (subst (λ (es : List Expression). TakesAllIn k shape es) (ap (λ p. p.labels) (viewed_item item) ∙ sym (ap (map plain_expression_of) is)) h)

-- ---- statements

pub empty_is : source_statement_of form.Empty ≡ core.Empty
empty_is = ap source_statement_of (sym rolls-Empty) ∙ fold-roll-SourceStatement SourceStatement source_statement_node SourceStatement-F.Empty

pub finish_is : source_statement_of form.Finish ≡ core.Finish
finish_is = ap source_statement_of (sym rolls-Finish) ∙ fold-roll-SourceStatement SourceStatement source_statement_node SourceStatement-F.Finish

-- a statement that is this one, whatever a call made of it
pub stands_ok : (d : Surroundings) (old new : HiddenList) (scope : ℕ) (source other : PlainStatement) (r : Result program_core.SourceStatement StatementFault) → source ≡ other
    → IfOk r (λ t. Makes old new (Lowers d scope other (source_statement_of t))) → IfOk r (λ t. Makes old new (Lowers d scope source (source_statement_of t)))
stands_ok d old new scope source other r e h = subst (λ (s : PlainStatement). IfOk r (λ t. Makes old new (Lowers d scope s (source_statement_of t)))) (sym e) h

-- so for one without hidden variables
pub alone_ok : (d : Surroundings) (scope : ℕ) (source other : PlainStatement) (r : Result program_core.SourceStatement StatementFault) → source ≡ other
    → IfOk r (λ t. Lowers d scope other (source_statement_of t) []) → IfOk r (λ t. Lowers d scope source (source_statement_of t) [])
alone_ok d scope source other r e h = subst (λ (s : PlainStatement). IfOk r (λ t. Lowers d scope s (source_statement_of t) [])) (sym e) h

-- ---- events

-- the events of a control
pub events_changes : (d : Surroundings) (scope : ℕ) (control : program_control.EventControl) (events : Vec source_event.VerilogEvent Global) (xs : List source_event.VerilogEvent) (source : PlainStatement) (r : Result (Vec program_event.EventExpression Global) StatementFault) → control ≡ controls.Events events → xs ≡ events.items
    → IfOk r (λ made. AreWaitedEvents (d.names scope) (d.event scope) (map plain_event xs) (core_triggers made)) → IfOk r (λ made. AreControlEvents d scope (plain_control control) source (core_triggers made))
events_changes d scope control events xs source r is e h =
    subst (λ (x : program_control.EventControl). IfOk r (λ made. AreControlEvents d scope (plain_control x) source (core_triggers made))) (sym is)
    (subst (λ (ys : List source_event.VerilogEvent). IfOk r (λ made. AreWaitedEvents (d.names scope) (d.event scope) (map plain_event ys) (core_triggers made))) e h)

-- those of an implicit one
pub implicit_changes : (d : Surroundings) (scope : ℕ) (control : program_control.EventControl) (source : PlainStatement) (r : Result (Vec program_event.EventExpression Global) StatementFault) → control ≡ controls.Implicit
    → IfOk r (λ made. AreControlEvents d scope (plain_control controls.Implicit) source (core_triggers made)) → IfOk r (λ made. AreControlEvents d scope (plain_control control) source (core_triggers made))
implicit_changes d scope control source r is h = subst (λ (x : program_control.EventControl). IfOk r (λ made. AreControlEvents d scope (plain_control x) source (core_triggers made))) (sym is) h

-- names of which there are some
pub some_names : (xs : List (String Global)) (names : List SourceText) → map string_bytes xs ≡ names → xs ≢ [] → names ≢ []
some_names [] names e some = absurd (some refl)
some_names (x ∷ xs) names e some = λ none. cc

pub event_known : (d : Surroundings) (scope : ℕ) (e : Expression) (o : Option (String Global)) (name : String Global) → o ≡ Some name → option_map string_bytes o ≡ event_named d scope e → NamesEvent d scope e (string_bytes name)
event_known d scope e o name is h = event_is_named d scope e (string_bytes name) (sym (ap (option_map string_bytes) is) ∙ h)

-- ---- repeat

pub repeat_made : (d : Surroundings) (n : Names) (scope : ℕ) (count : Expression) (shape : Shape) (hidden : SourceText) (counted tree : core.Expression SourceText) (body made : SourceStatement) → n ≡ d.names scope → shape ≡ own_shape (meaning n count)
    → IsSelfLowered (d.names scope) count counted → tree ≡ count_tree shape.signed shape.width counted → made ≡ repeat_loop hidden tree body → IsRepeat d scope count body made ((hidden, shape.width) ∷ [])
repeat_made d n scope count shape hidden counted tree body made same is lowered count_is e =
    let f : shape ≡ own_shape (meaning (d.names scope) count) = is ∙ ap (λ (x : Names). own_shape (meaning x count)) same in (
      hidden,
      counted,
      ap (λ (s : Shape). (hidden, s.width) ∷ []) f,
      lowered,
      e ∙ ap (λ (t : core.Expression SourceText). repeat_loop hidden t body) (count_is ∙ ap (λ (s : Shape). count_tree s.signed s.width counted) f),
    )

-- ---- items

pub default_added : (branches : List PlainBranch) (old new : List program_core.SourceStatement) (s : program_core.SourceStatement) → old ≡ [] → new ≡ old ++ s ∷ []
    → IsPartAdded None (source_statement_of s) (branches, map source_statement_of old) (branches, map source_statement_of new)
default_added branches [] new s none e = (refl, ap (λ (xs : List program_core.SourceStatement). (branches, map source_statement_of xs)) e)
default_added branches (x ∷ old) new s none e = absurd (cc)

pub branch_added : (old new : List Branch) (b : Branch) (condition : core.Expression SourceText) (s : SourceStatement) (otherwise : List SourceStatement) → new ≡ old ++ b ∷ [] → branch_of b ≡ (condition, s ∷ [])
    → IsPartAdded (Some condition) s (map branch_of old, otherwise) (map branch_of new, otherwise)
branch_added old new b condition s otherwise e is =
    ap (λ (bs : List PlainBranch). (bs, otherwise)) (ap (map branch_of) e ∙ map-append branch_of old (b ∷ []) ∙ ap (λ (x : PlainBranch). map branch_of old ++ x ∷ []) is)

-- an empty statement
pub empty_lowered : (d : Surroundings) (scope at : ℕ) (source : PlainStatement) → source ≡ plain.Empty at → Lowers d scope source (source_statement_of form.Empty) []
empty_lowered d scope at source is =
    subst (λ (s : PlainStatement). Lowers d scope s (source_statement_of form.Empty) []) (sym is)
    (subst (λ (t : SourceStatement). Lowers d scope (plain.Empty at) t []) (sym empty_is) (lowers_empty scope at))

-- an item is added, whatever a call says of it
pub item_ok : (d : Surroundings) (scope : ℕ) (shape : Shape) (hidden : SourceText) (labels : List Expression) (trees : List (core.Expression SourceText)) (o : Option (core.Expression SourceText)) (body : SourceStatement) (old new : CaseMade) (r : Result (Unit {0}) StatementFault)
    → AreLowered (d.names scope) shape labels trees → any_fits hidden trees None ≡ o → OnOk r (IsPartAdded o body old new) → OnOk r (AddsItem d scope shape hidden labels body old new)
item_ok d scope shape hidden labels trees o body old new (Ok x) are same h = (trees, are, subst (λ (p : Option (core.Expression SourceText)). IsPartAdded p body old new) (sym same) h)
item_ok d scope shape hidden labels trees o body old new (Err fault) are same h = tt

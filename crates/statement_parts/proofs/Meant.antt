-- What targets, delays and events stand for, by what is found of them.
use Rattle.std.proofs.Common.{◌≡◌, ℕ, ◌+◌, ◌<◌, ◌≤◌, pos, ℤ, List, [], ◌∷◌, ◌++◌, map, length, get_or, slice_get, take, Option, Some, None, option_map, option_and_then, MatchOption, IfSome, Result, Ok, Err, IfOk, string_bytes, refl, sym, ap, subst, ◌∙◌}
use Rattle.std.specs.Borrow.{Bor}
use Rattle.std.specs.Box.{box_value}
use Rattle.std.specs.List.{HoldsAt}
use Rattle.std.proofs.lemmas.Option.{slice_get_past, slice_get_read}
use Rattle.std.proofs.lemmas.List.{take_more, map-append}
use Rattle.syntax_tree.specs.declared.statements.VerilogChange as source_change
use Rattle.syntax_tree.specs.declared.statements.VerilogChange.TheVariants as changes
use Rattle.syntax_tree.specs.declared.statements.VerilogEvent as source_event
use Rattle.model.specs.declared.tree.Change.TheVariants as change
use Rattle.model.specs.declared.tree.EventExpression.{EventExpression}
use Rattle.model.specs.SourceTrees.{source_trigger_of}
use Rattle.syntax_tree.specs.declared.expressions.VerilogExpression as program
use Rattle.syntax_tree.specs.declared.expressions.VerilogExpression.{fold-roll-VerilogExpression}
use Rattle.syntax_tree.specs.declared.expressions.VerilogExpression.TheOpen.{VerilogExpression-F}
use Rattle.syntax_tree.specs.declared.expressions.VerilogExpression.TheVariants.{rolls-Member}
use Rattle.syntax_tree.specs.declared.expressions.VerilogExpression.TheViews as view
use Rattle.syntax_tree.specs.Expressions as source
use Rattle.syntax_tree.specs.Expressions.{Expression, plain_expression_of, plain_expression_node}
use Rattle.scopes.specs.declared.scope.Entity.{Entity}
use Rattle.scopes.specs.Scopes.{declared_in}
use Rattle.design_scopes.specs.declared.scoped.ScopedDesign.{ScopedDesign}
use Rattle.design_scopes.specs.Places.{names_in_scope}
use Rattle.statement_parts.specs.declared.faults.StatementFault.{StatementFault}
use Rattle.statement_parts.specs.Places.{member_entity, event_entity}
use Rattle.shaped_trees.specs.declared.constants.Constant.{Constant}
use Rattle.shaped_trees.specs.Integers.{integer_of}
use Rattle.sizing.specs.declared.environment.Object.{Object}
use Rattle.sizing.specs.declared.environment.ObjectValue.{ObjectValue}
use Rattle.sizing.specs.declared.environment.ObjectValue.TheVariants as worth
use Rattle.sizing.specs.Names.{Names, object_width}
use Rattle.sizing.specs.Meanings.{Meaning, meaning, constant_integer, constant_value}
use Rattle.sizing.specs.Results.{IsConstantOf}
use Rattle.sizing.specs.Typing.{IsNameOf}
use Rattle.design_scopes.specs.Flat.{name_by, object_name}
use Rattle.statement_forms.specs.Views.{NamedTrigger}
use Rattle.statement_parts.specs.declared.targets.TargetVariable.{TargetVariable}
use Rattle.statement_parts.specs.Statements.{SourceText, PlainEvent, plain_event}
use Rattle.statement_parts.specs.Surroundings.{Surroundings}
use Rattle.statement_parts.specs.Reads.{varying}
use Rattle.statement_parts.specs.Parts.{IsTargetOf, IsVariable, event_named, core_change_of, IsWaitedEvent, of_variable, of_event, AreWaitedEvents, no_event, one_event}

-- a constant's number is that of what it stands for
pub number_meant : (m : Meaning) (c : Constant) (r : Option ℤ) (n : ℕ) → IsConstantOf m c → r ≡ integer_of c.signed c.digits → r ≡ Some (pos n) → constant_integer m ≡ Some (pos n)
number_meant m c r n is integer found =
    ap (λ b. integer_of b (constant_value m)) (sym is.sign) ∙ ap (integer_of c.signed) (sym is.digits.digits) ∙ sym integer ∙ found

-- the name of what varies
value_named : (v : ObjectValue) (o : Object) (name : SourceText) → o.value ≡ v → name_by v ≡ Some name → IsNameOf name o
value_named (worth.Constant digits) o name is h = absurd (cc)
value_named (worth.Variable text) o name is h = (text, is, cc)

name_named : (o : Object) (name : SourceText) → object_name o ≡ Some name → IsNameOf name o
name_named o name h = value_named o.value o name refl h

-- an object with a name and a width is a variable
pub variable_is : (o : Object) (name : SourceText) (width : ℕ) → Some name ≡ object_name o → width ≡ object_width o → IsVariable o name width
variable_is o name width named wide = record { named = name_named o name (sym named); wide = sym wide }

-- an object that is a variable is a target
pub variable_meant : {E : Type 0} (r : Result TargetVariable E) (n : Names) (e : Expression) (o : Object) → (meaning n e).object ≡ Some o
    → IfOk r (λ t. IsVariable o (string_bytes t.name) t.width) → IfOk r (λ t. IsTargetOf n e (string_bytes t.name) t.width)
variable_meant (Ok t) n e o means is = record { object = o; means = means; named = is.named; wide = is.wide }
variable_meant (Err f) n e o means is = tt

-- a variable is waited for
pub variable_waits : (d : Surroundings) (scope : ℕ) (n : Names) (event : source_event.VerilogEvent) (name : SourceText) (width : ℕ) → n ≡ d.names scope → IsTargetOf n (plain_expression_of event.expression) name width
    → IsWaitedEvent (d.names scope) (d.event scope) (plain_event event) (core_change_of event.change, name)
variable_waits d scope n event name width same target =
    of_variable event.token width event.change (plain_expression_of event.expression) name (subst (λ (k : Names). IsTargetOf k (plain_expression_of event.expression) name width) same target)

-- what is added is the variable that a name stands for
pub named_added : (old new : List SourceText) (n m : Names) (e : Expression) (o : Object) → new ≡ old ++ varying (Some o) → (meaning n e).object ≡ Some o → n ≡ m
    → new ≡ old ++ varying (meaning m e).object
named_added old new n m e o more is same = more ∙ ap (λ r. old ++ varying r) (sym is) ∙ ap (λ k. old ++ varying (meaning k e).object) same

-- An expression names a named event: the event has this flat name.
pub record NamesEvent (d : Surroundings) (scope : ℕ) (e : Expression) (name : SourceText) : Type 0 where
  pub object : Object
  pub event : d.event scope e ≡ Some object
  pub named : IsNameOf name object

-- so where its flat name is found
pub event_is_named : (d : Surroundings) (scope : ℕ) (e : Expression) (name : SourceText) → Some name ≡ event_named d scope e → NamesEvent d scope e name
event_is_named d scope e name h = by_object (d.event scope e) refl (sym h)
  where
    by_object : (o : Option Object) → d.event scope e ≡ o → option_and_then object_name o ≡ Some name → NamesEvent d scope e name
    by_object None found k = absurd (cc)
    by_object (Some o) found k = record { object = o; event = found; named = name_named o name k }

-- any change of a named event
event_meant : (d : Surroundings) (scope at : ℕ) (c : source_change.VerilogChange) (e : Expression) (name : SourceText) → c ≡ changes.Any → NamesEvent d scope e name
    → IsWaitedEvent (d.names scope) (d.event scope) (record { at = at; change = c; expression = e }) (core_change_of c, name)
event_meant d scope at c e name any found =
    subst (λ (k : source_change.VerilogChange). IsWaitedEvent (d.names scope) (d.event scope) (record { at = at; change = k; expression = e }) (core_change_of k, name)) (sym any)
    (of_event at e name found.object found.event found.named)

pub event_waits : (d : Surroundings) (scope : ℕ) (event : source_event.VerilogEvent) (name : SourceText) → Some name ≡ event_named d scope (plain_expression_of event.expression) → event.change ≡ changes.Any
    → IsWaitedEvent (d.names scope) (d.event scope) (plain_event event) (core_change_of event.change, name)
event_waits d scope event name named any = event_meant d scope event.token event.change (plain_expression_of event.expression) name any (event_is_named d scope (plain_expression_of event.expression) name named)

-- the object at a number
pub got_object : (xs : List Object) (i : ℕ) (r : Option (Bor Object)) → MatchOption r (length xs ≤ i) (λ x. (i < length xs) × HoldsAt (λ y. x.now ≡ y) xs i) → IfSome r (λ x. x.now ≡ get_or xs i x.now)
    → option_map (λ (x : Bor Object). x.now) r ≡ slice_get xs i
got_object xs i None h at = sym (slice_get_past xs i h)
got_object xs i (Some x) h at = sym (slice_get_read xs (length xs) i x.now refl h.0 at)

-- one event more
pub events_more : (n : Names) (event : Expression → Option Object) (es : List PlainEvent) (ts : List NamedTrigger) (e : PlainEvent) (t : NamedTrigger)
    → AreWaitedEvents n event es ts → IsWaitedEvent n event e t → AreWaitedEvents n event (es ++ e ∷ []) (ts ++ t ∷ [])
events_more n event _ _ e t no_event is = one_event e t [] [] is no_event
events_more n event _ _ e t (one_event f u es ts first others) is = one_event f u (es ++ e ∷ []) (ts ++ t ∷ []) first (events_more n event es ts e t others is)

-- so of the program's events
pub one_event_more : (d : Surroundings) (scope : ℕ) (events : List source_event.VerilogEvent) (i : ℕ) (event : source_event.VerilogEvent) (made new : List EventExpression) (pushed : EventExpression)
    → i < length events → event ≡ get_or events i event → new ≡ made ++ pushed ∷ [] → pushed.change ≡ core_change_of event.change
    → IsWaitedEvent (d.names scope) (d.event scope) (plain_event event) (core_change_of event.change, string_bytes pushed.name)
    → AreWaitedEvents (d.names scope) (d.event scope) (map plain_event (take i events)) (map source_trigger_of made)
    → AreWaitedEvents (d.names scope) (d.event scope) (map plain_event (take (i + 1) events)) (map source_trigger_of new)
one_event_more d scope events i event made new pushed less at is kind waited before =
    let taken : map plain_event (take i events) ++ plain_event event ∷ [] ≡ map plain_event (take (i + 1) events) =
    sym (ap (map plain_event) (take_more events i event less ∙ ap (λ e. take i events ++ e ∷ []) (sym at)) ∙ map-append plain_event (take i events) (event ∷ [])) in
    let put : map source_trigger_of made ++ (core_change_of event.change, string_bytes pushed.name) ∷ [] ≡ map source_trigger_of new =
    ap (λ k. map source_trigger_of made ++ (k, string_bytes pushed.name) ∷ []) (sym kind) ∙ sym (ap (map source_trigger_of) is ∙ map-append source_trigger_of made (pushed ∷ [])) in
    subst (λ es. AreWaitedEvents (d.names scope) (d.event scope) es (map source_trigger_of new)) taken
    (subst (AreWaitedEvents (d.names scope) (d.event scope) (map plain_event (take i events) ++ plain_event event ∷ [])) put
    (events_more (d.names scope) (d.event scope) (map plain_event (take i events)) (map source_trigger_of made) (plain_event event) (core_change_of event.change, string_bytes pushed.name) before waited))

-- ---- names of events

-- a member of a scope that is found
pub member_found : (design : ScopedDesign) (scope : ℕ) (m : Names) (base : Expression) (inner : ℕ) (name : SourceText) (r : Option Entity) → m ≡ names_in_scope design.tree.scopes.items design.objects.items scope
    → (meaning m base).scope None ≡ Some inner → r ≡ declared_in design.tree.scopes.items inner name → r ≡ member_entity design scope base name
member_found design scope m base inner name r same there is =
    let here : (meaning (names_in_scope design.tree.scopes.items design.objects.items scope) base).scope None ≡ Some inner = subst (λ (k : Names). (meaning k base).scope None ≡ Some inner) same there in
    is ∙ sym (ap (option_and_then (λ (s : ℕ). declared_in design.tree.scopes.items s name)) here)

-- a member, as the program has it
pub member_named : (design : ScopedDesign) (scope : ℕ) (e : program.VerilogExpression) (at : _) (base : _) (name : _) (b : program.VerilogExpression) (word : SourceText) (r : Result (Option Entity) StatementFault) → e ≡ view.Member at base name
    → b ≡ box_value base → word ≡ name.items → IfOk r (λ found. found ≡ member_entity design scope (plain_expression_of b) word) → IfOk r (λ found. found ≡ event_entity design scope (plain_expression_of e))
member_named design scope e at base name b word r is inner same h =
    let plain : plain_expression_of e ≡ source.Member at (plain_expression_of b) word =
    ap plain_expression_of (is ∙ sym (rolls-Member at base name)) ∙ fold-roll-VerilogExpression Expression plain_expression_node (VerilogExpression-F.Member at base name) ∙ (λ i. source.Member at (plain_expression_of (sym inner i)) (sym same i)) in
    subst (λ (x : Expression). IfOk r (λ found. found ≡ event_entity design scope x)) (sym plain) h

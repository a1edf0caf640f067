-- What the parts of statements stand for: targets, delays and events (IEEE 1364-2005, 9.2, 9.7).
use Rattle.std.specs.Prelude.{◌≡◌, ◌≢◌, ℕ, pos, List, [], ◌∷◌, map, Option, Some, None, option_and_then}
use Rattle.model.specs.declared.tree.Change as core_change
use Rattle.model.specs.declared.tree.Change.TheVariants as change
use Rattle.syntax_tree.specs.declared.statements.VerilogChange as source_change
use Rattle.syntax_tree.specs.declared.statements.VerilogChange.TheVariants as changes
use Rattle.syntax_tree.specs.Expressions.{Expression}
use Rattle.sizing.specs.declared.environment.Object.{Object}
use Rattle.sizing.specs.Names.{Names, object_width}
use Rattle.sizing.specs.Meanings.{meaning, constant_integer}
use Rattle.sizing.specs.Typing.{IsNameOf}
use Rattle.design_scopes.specs.Flat.{object_name}
use Rattle.statement_forms.specs.Views.{NamedTrigger}
use Rattle.statement_parts.specs.Statements as plain
use Rattle.statement_parts.specs.Statements.{SourceText, PlainStatement, PlainEvent, PlainTiming}
use Rattle.statement_parts.specs.Surroundings.{Surroundings}
use Rattle.statement_parts.specs.Reads.{names_read}

-- A target is a variable, by its flat name and its width.
pub record IsTargetOf (n : Names) (target : Expression) (name : SourceText) (width : ℕ) : Type 0 where
  pub object : Object
  pub means : (meaning n target).object ≡ Some object
  pub named : IsNameOf name object
  pub wide : object_width object ≡ width

-- An object is a variable, by its flat name and its width.
pub record IsVariable (o : Object) (name : SourceText) (width : ℕ) : Type 0 where
  pub named : IsNameOf name o
  pub wide : object_width o ≡ width

-- a delay is a constant, and no negative one (9.7.1)
abbrev pub IsDelayNumber : Names → Expression → ℕ → Type 0
IsDelayNumber n e delay = constant_integer (meaning n e) ≡ Some (pos delay)

-- the delay inside of an assignment, where there is one (9.7.7)
abbrev pub IsGivenDelay : Names → Option PlainTiming → Option ℕ → Type 0
IsGivenDelay n None None = Unit {0}
IsGivenDelay n (Some (plain.AfterDelay e)) (Some delay) = IsDelayNumber n e delay
IsGivenDelay n _ _ = ⊥

-- a change as the core has it
abbrev pub core_change_of : source_change.VerilogChange → core_change.Change
core_change_of changes.Any = change.Any
core_change_of changes.Posedge = change.Posedge
core_change_of changes.Negedge = change.Negedge

-- the flat name of the named event that an expression names, if it names one
abbrev pub event_named : Surroundings → ℕ → Expression → Option SourceText
event_named d scope e = option_and_then object_name (d.event scope e)

-- An event is a change of a variable, or any change of the digit that a named event is (9.7.2, 9.7.3).
pub data IsWaitedEvent (n : Names) (event : Expression → Option Object) : PlainEvent → NamedTrigger → Type 0 where
  of_variable : (at width : ℕ) (c : source_change.VerilogChange) (e : Expression) (name : SourceText) → IsTargetOf n e name width
      → IsWaitedEvent n event (record { at = at; change = c; expression = e }) (core_change_of c, name)
  of_event : (at : ℕ) (e : Expression) (name : SourceText) (o : Object) → event e ≡ Some o → IsNameOf name o
      → IsWaitedEvent n event (record { at = at; change = changes.Any; expression = e }) (change.Any, name)

-- each event of a list, in its order
pub data AreWaitedEvents (n : Names) (event : Expression → Option Object) : List PlainEvent → List NamedTrigger → Type 0 where
  no_event : AreWaitedEvents n event [] []
  one_event : (e : PlainEvent) (t : NamedTrigger) (es : List PlainEvent) (ts : List NamedTrigger) → IsWaitedEvent n event e t → AreWaitedEvents n event es ts → AreWaitedEvents n event (e ∷ es) (t ∷ ts)

-- any change of a name
abbrev pub whole_change : SourceText → NamedTrigger
whole_change name = (change.Any, name)

-- the events of a control before a statement
abbrev pub AreControlEvents : Surroundings → ℕ → plain.PlainControl → PlainStatement → List NamedTrigger → Type 0
AreControlEvents d scope plain.Implicit source triggers = (names_read d scope source ≢ []) × (triggers ≡ map whole_change (names_read d scope source))
AreControlEvents d scope (plain.Events events) source triggers = AreWaitedEvents (d.names scope) (d.event scope) events triggers

-- Where statements stand (IEEE 1364-2005, 12.5 to 12.7).
use Rattle.std.specs.Prelude.{ℕ, Option, Some, None}
use Rattle.sizing.specs.declared.environment.Object.{Object}
use Rattle.sizing.specs.Names.{Names}
use Rattle.syntax_tree.specs.Expressions.{Expression}
use Rattle.statement_parts.specs.Statements.{SourceText}

-- Where statements stand: what names mean at each scope; the scope of a named block, by the scope around it; the named event that an
-- expression names at a scope; and the full name of a scope.
pub record Surroundings : Type 0 where
  pub names : ℕ → Names
  pub inner : ℕ → SourceText → Option ℕ
  pub event : ℕ → Expression → Option Object
  pub path : ℕ → SourceText

-- the scope of the statements of a block: its own where it has a name (9.8.3)
abbrev pub inner_scope : Surroundings → ℕ → Option SourceText → Option ℕ
inner_scope d scope None = Some scope
inner_scope d scope (Some name) = d.inner scope name

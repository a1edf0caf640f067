-- Whether a call stands in an expression: of a function (IEEE 1364-2005, 10.4.4), or of one of the time (17.7).
use Rattle.std.specs.Prelude.{Bool, true, false, ◌||◌}
use Rattle.statement_parts.specs.Times.{is_time_function}
use Rattle.syntax_tree.specs.Expressions as source
use Rattle.syntax_tree.specs.Expressions.{Expression, Expressions}

-- whether a function's call, or the time, stands in an expression
abbrev mutual
  pub calls_in : Expression → Bool
  calls_in (source.Call at function arguments) = true
  calls_in (source.Member at base name) = calls_in base
  calls_in (source.Index at base i) = calls_in base || calls_in i
  calls_in (source.Part at form base first second) = calls_in base || (calls_in first || calls_in second)
  calls_in (source.SystemCall at name arguments) = is_time_function name || calls_in_any arguments
  calls_in (source.Concatenation at parts) = calls_in_any parts
  calls_in (source.Replication at count parts) = calls_in count || calls_in_any parts
  calls_in (source.Unary at op e) = calls_in e
  calls_in (source.Binary at op e f) = calls_in e || calls_in f
  calls_in (source.Conditional at c e f) = calls_in c || (calls_in e || calls_in f)
  calls_in e = false

  pub calls_in_any : Expressions → Bool
  calls_in_any source.Nothing = false
  calls_in_any (source.Also e es) = calls_in e || calls_in_any es

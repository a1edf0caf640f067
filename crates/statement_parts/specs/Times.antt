-- The functions of the time (IEEE 1364-2005, 17.7).
use Rattle.std.specs.Prelude.{Bool, false, List, ℕ, ◌||◌, codes}
use Rattle.std.specs.Str.{bytes_eq}
use Rattle.syntax_tree.specs.Expressions as source
use Rattle.syntax_tree.specs.Expressions.{Expression}

-- a function of the time is `$time`, or `$stime`, which has its low 32 digits
abbrev pub is_time_function : List ℕ → Bool
is_time_function name = bytes_eq name (codes "$time") || bytes_eq name (codes "$stime")

-- an expression that is the time alone
abbrev pub is_time : Expression → Bool
is_time (source.SystemCall at name source.Nothing) = bytes_eq name (codes "$time")
is_time e = false

-- Ways in a row, as plain lists.
use Rattle.std.specs.Prelude.{List, map}
use Rattle.std.specs.Global.{Vec}
use Rattle.loose.specs.declared.transition.LooseTransition.{LooseTransition}

-- the ways in a row
abbrev pub ways_in : List (Vec LooseTransition) → List (List LooseTransition)
ways_in ways = map (λ way. way.items) ways

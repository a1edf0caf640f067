-- The lines on how far in time a search came that met a limit, and on where most of its choices are.
use Rattle.std.specs.Prelude.{ℕ, ◌==◌, if◌then◌else◌, List, [], ◌++◌, codes, decimal, length}
use Rattle.verdict.specs.OrderLines.{PlainPrinter, printers_text}

-- the line on a time before which all orders were followed
abbrev pub before_text : ℕ → List ℕ
before_text time = codes "before time " ++ decimal time ++ codes " all orders were followed\n"

-- so it is, and nothing where that is time 0
abbrev pub followed_text : ℕ → List ℕ
followed_text time = if time == 0 then [] else before_text time

-- the line on the time at which most choices are, and the processes that may come next there
abbrev pub some_choices_text : ℕ → List PlainPrinter → List ℕ
some_choices_text time processes = codes "most choices at time " ++ decimal time ++ codes ": processes " ++ printers_text processes ++ codes "\n"

-- so it is, and nothing where there are none
abbrev pub choices_text : ℕ → List PlainPrinter → List ℕ
choices_text time processes = if length processes == 0 then [] else some_choices_text time processes

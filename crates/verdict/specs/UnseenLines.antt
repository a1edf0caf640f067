-- The line on registers whose values differ where no line shows it.
use Rattle.std.specs.Prelude.{ℕ, ◌==◌, if◌then◌else◌, List, ◌++◌, codes, decimal}
use Rattle.verdict.specs.OrderLines.{PlainPrinter, printer_text}

-- for what two processes race, when, and which two they are
abbrev pub raced_pair_text : List ℕ → ℕ → PlainPrinter → PlainPrinter → List ℕ
raced_pair_text site time first second =
    site ++ codes ", time " ++ decimal time ++ codes ", processes " ++ printer_text first ++ codes " and " ++ printer_text second ++ codes "; "

-- that so many registers differ at a time, with a word for one
abbrev pub differ_at_text : ℕ → List ℕ
differ_at_text count = if count == 1 then codes " differs at time " else codes " differ at time "

-- the line on so many registers of these names that differ when a time passes, by this race, where one is told
abbrev pub unseen_line_text : List ℕ → List ℕ → ℕ → ℕ → List ℕ
unseen_line_text race names count time =
    codes "a race that no line shows: " ++ race ++ names ++ differ_at_text count ++ decimal time ++ codes ": not compared (--observe registers)\n"

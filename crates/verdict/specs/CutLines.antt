-- The line on a list of races that was cut.
use Rattle.std.specs.Prelude.{ℕ, List, ◌++◌, codes}
use Rattle.verdict.specs.Verdicts.{limit_text}
use Rattle.verdict.specs.declared.cut.ListCut.{ListCut}
use Rattle.verdict.specs.declared.cut.ListCut.TheVariants.{Races, Runs, Entries, Steps, Memory}

-- by what the list was cut
abbrev pub cut_cause_text : ListCut → List ℕ
cut_cause_text (Races most) = limit_text most (codes " race)\n") (codes " races)\n")
cut_cause_text (Runs most) = limit_text most (codes " second run)\n") (codes " second runs)\n")
cut_cause_text (Entries most) = limit_text most (codes " entry of second runs)\n") (codes " entries of second runs)\n")
cut_cause_text (Steps most) = limit_text most (codes " entry between two changes of the regions)\n") (codes " entries between two changes of the regions)\n")
cut_cause_text Memory = codes "memory was refused\n"

-- that races may be missing, and why
abbrev pub cut_text : ListCut → List ℕ
cut_text cut = codes "races may be missing: " ++ cut_cause_text cut

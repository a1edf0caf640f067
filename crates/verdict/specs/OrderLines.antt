-- The line on processes whose lines come in another order in another run.
use Rattle.std.specs.Prelude.{ℕ, ◌==◌, if◌then◌else◌, List, [], ◌∷◌, ◌++◌, length, Option, Some, None, option_map, codes, decimal}
use Rattle.verdict.specs.RaceLines.{saved_journal_text}
use Rattle.verdict.specs.declared.order.PrinterDescription.{PrinterDescription}

-- words, in parentheses
abbrev pub in_parentheses : List ℕ → List ℕ
in_parentheses words = codes " (" ++ words ++ codes ")"

-- where a process begins, if that is known
abbrev pub beginning_text : Option (List ℕ) → List ℕ
beginning_text (Some words) = in_parentheses words
beginning_text None = []

-- a process that prints: its number, and where it begins, in words, if that is known
pub record PlainPrinter : Type 0 where
  pub number : ℕ
  pub at : Option (List ℕ)

abbrev pub plain_printer : PrinterDescription → PlainPrinter
plain_printer printer = record { number = printer.number; at = option_map (λ words. words.now) printer.at }

-- a process, and where it begins
abbrev pub printer_text : PlainPrinter → List ℕ
printer_text printer = decimal printer.number ++ beginning_text printer.at

-- what stands before a process that follows another one, and behind which so many come
abbrev pub separator_text : ℕ → List ℕ
separator_text left = if left == 0 then codes " and " else codes ", "

-- processes that follow another one
abbrev pub later_printers_text : List PlainPrinter → List ℕ
later_printers_text [] = []
later_printers_text (p ∷ ps) = separator_text (length ps) ++ printer_text p ++ later_printers_text ps

-- processes, with a comma between two of them and a word before the last
abbrev pub printers_text : List PlainPrinter → List ℕ
printers_text [] = []
printers_text (p ∷ ps) = printer_text p ++ later_printers_text ps

-- the line on these processes at a time, with the journal of the other run, where that is saved
abbrev pub line_order_text : ℕ → List PlainPrinter → Option (List ℕ) → Option ℕ → List ℕ
line_order_text time printers prefix journal =
    codes "at time " ++ decimal time ++ codes " the lines of processes " ++ printers_text printers ++ codes " come in another order in another run"
    ++ saved_journal_text prefix journal ++ codes "\n"

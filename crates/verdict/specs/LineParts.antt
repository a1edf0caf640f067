-- Lines, part by part.
use Rattle.std.specs.Prelude.{List, [], ◌∷◌, ◌++◌, ℕ, map, option_map, decimal}
use Rattle.verdict.specs.OrderLines.{plain_printer, printer_text, printers_text}
use Rattle.verdict.specs.RaceLines.{saved_journal_text}
use Rattle.verdict.specs.Verdicts.{up_to}
use Rattle.verdict.specs.declared.parts.LinePart.{LinePart}
use Rattle.verdict.specs.declared.parts.LinePart.TheVariants.{Bytes, Number, UpTo, Printer, Printers, Journal}

-- the text of a part
abbrev pub line_part_text : LinePart → List ℕ
line_part_text (Bytes bytes) = bytes.now
line_part_text (Number number) = decimal number
line_part_text (UpTo until) = up_to until
line_part_text (Printer printer) = printer_text (plain_printer printer)
line_part_text (Printers printers) = printers_text (map plain_printer printers.now)
line_part_text (Journal prefix number) = saved_journal_text (option_map (λ path. path.now) prefix) number

-- a text with the texts of parts behind it
abbrev pub text_with_parts : List ℕ → List LinePart → List ℕ
text_with_parts text [] = text
text_with_parts text (p ∷ ps) = text_with_parts (text ++ line_part_text p) ps

-- the texts of parts, one behind another
abbrev pub line_parts_text : List LinePart → List ℕ
line_parts_text [] = []
line_parts_text (p ∷ ps) = text_with_parts (line_part_text p) ps

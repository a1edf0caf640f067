-- The text of a value change dump (IEEE 1364-2005, 18.2).
use Rattle.std.specs.Prelude.{ℕ, ◌+◌, ◌==◌, if◌then◌else◌, List, [], ◌∷◌, ◌++◌, length, codes, decimal}
use Rattle.logic4.specs.Vector.{Vector, unknown}
use Rattle.logic4.specs.Display.{binary_text}
use Rattle.model.specs.Syntax.{Text}
use Rattle.waves.specs.declared.wave.ValueChange.{ValueChange}
use Rattle.waves.specs.IdentifierCodes.{code}

-- the line of one digit: the digit and the code
abbrev pub scalar_line : ℕ → List ℕ → List ℕ
scalar_line r digits = digits ++ code r ++ codes "\n"

-- the line of several digits: b, the digits, a space and the code
abbrev pub vector_line : ℕ → List ℕ → List ℕ
vector_line r digits = codes "b" ++ digits ++ codes " " ++ code r ++ codes "\n"

-- the line of a register's value, with all of its digits
abbrev pub value_line : ℕ → Vector → List ℕ
value_line r v = if length v == 1 then scalar_line r (binary_text v) else vector_line r (binary_text v)

-- the line of a time
abbrev pub time_line : ℕ → List ℕ
time_line time = codes "#" ++ decimal time ++ codes "\n"

-- a time's line, where the time isn't the one that stands
abbrev pub new_time : ℕ → ℕ → List ℕ
new_time standing time = if time == standing then [] else time_line time

-- the lines of changes, behind those of a time, each time before its changes, and at last the end
abbrev pub changes_text : ℕ → List ValueChange → ℕ → List ℕ
changes_text standing [] end = new_time standing end
changes_text standing (c ∷ cs) end = new_time standing c.time ++ (value_line c.register c.value ++ changes_text c.time cs end)

-- the line that declares a register
abbrev pub register_line : ℕ → Text → ℕ → List ℕ
register_line r name width =
    codes "$var reg " ++ decimal width ++ codes " " ++ code r ++ codes " " ++ name ++ codes " $end\n"

-- the lines that declare registers, from one number on
abbrev pub registers_text : ℕ → List Text → List ℕ → List ℕ
registers_text r (name ∷ names) (width ∷ widths) = register_line r name width ++ registers_text (r + 1) names widths
registers_text r _ _ = []

-- the values of registers before their first change, from one number on
abbrev pub unknown_values_text : ℕ → List ℕ → List ℕ
unknown_values_text r [] = []
unknown_values_text r (width ∷ widths) = value_line r (unknown width) ++ unknown_values_text (r + 1) widths

-- what stands before the first change
abbrev pub header_text : Text → List Text → List ℕ → List ℕ
header_text scope names widths =
    codes "$timescale 1 ns $end\n$scope module " ++ scope ++ codes " $end\n" ++ registers_text 0 names widths
    ++ codes "$upscope $end\n$enddefinitions $end\n#0\n$dumpvars\n" ++ unknown_values_text 0 widths ++ codes "$end\n"

-- the whole text, by the names of the module and of its registers, their widths, the changes, and the time of the end
abbrev pub vcd_text : Text → List Text → List ℕ → List ValueChange → ℕ → List ℕ
vcd_text scope names widths changes end = header_text scope names widths ++ changes_text 0 changes end

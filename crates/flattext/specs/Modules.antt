-- The text of a module (IEEE 1364-2005, 4.2, 9.9, 12.1, A.1).
use Rattle.std.specs.Prelude.{ℕ, Bool, true, false, List, [], ◌∷◌, ◌++◌, map, get_or, Option, Some, None, codes, decimal}
use Rattle.model.specs.Syntax.{Text, Declaration, SourceProcess, Module}
use Rattle.flattext.specs.Names.{name_text}
use Rattle.flattext.specs.Statements.{statement_text}

-- a range and a space behind it, where there is one (4.3)
abbrev pub range_text : Option (ℕ × ℕ) → Text
range_text None = []
range_text (Some range) = codes "[" ++ (decimal range.0 ++ (codes ":" ++ (decimal range.1 ++ codes "] ")))

-- names with a comma before each
abbrev pub other_names_text : List Text → Text
other_names_text [] = []
other_names_text (name ∷ names) = codes ", " ++ (name_text name ++ other_names_text names)

-- names with commas between them
abbrev pub names_text : List Text → Text
names_text [] = []
names_text (name ∷ names) = name_text name ++ other_names_text names

-- the line of a declaration (4.2.2)
unfoldable pub declaration_text : Declaration → Text
declaration_text d = codes "  reg " ++ (range_text d.range ++ (names_text d.names ++ codes ";\n"))

-- the lines of declarations
abbrev pub declarations_text : List Declaration → Text
declarations_text [] = []
declarations_text (d ∷ ds) = declaration_text d ++ declarations_text ds

-- the spaces, the word and a space with which a process begins (9.9)
abbrev pub process_word_text : Bool → Text
process_word_text true = codes "  always "
process_word_text false = codes "  initial "

-- the lines of a process
unfoldable pub source_process_text : SourceProcess → Text
source_process_text p = process_word_text p.repeats ++ statement_text 1 false p.body

-- the lines of processes
abbrev pub processes_text : List SourceProcess → Text
processes_text [] = []
processes_text (p ∷ ps) = source_process_text p ++ processes_text ps

-- the line with which a module begins (12.1)
unfoldable pub head_text : Text → Text
head_text name = codes "module " ++ (name_text name ++ codes ";\n")

-- a module: its declarations and its processes, each in their order
unfoldable pub module_text : Module → Text
module_text m = head_text m.name ++ (declarations_text m.declarations ++ (processes_text m.processes ++ codes "endmodule\n"))

-- the place of a process, in a comment of its own line (3.3)
abbrev pub place_text : Text → Text
place_text place = codes "  // " ++ (place ++ codes "\n")

-- the place of the process of a number, where there is one
abbrev pub place_at : List Text → ℕ → Text
place_at places number = get_or (map place_text places) number []

-- the lines of processes, each behind its place; those without one as they are
abbrev pub placed_processes_text : List Text → List SourceProcess → Text
placed_processes_text places [] = []
placed_processes_text [] (p ∷ ps) = source_process_text p ++ placed_processes_text [] ps
placed_processes_text (place ∷ places) (p ∷ ps) = place_text place ++ (source_process_text p ++ placed_processes_text places ps)

-- a module with the places of its processes
unfoldable pub placed_module_text : List Text → Module → Text
placed_module_text places m = head_text m.name ++ (declarations_text m.declarations ++ (placed_processes_text places m.processes ++ codes "endmodule\n"))

-- How the faults of the tokenizer and of the parser become those of a text. The public contracts don't speak of it.
use Rattle.std.specs.Prelude.{ℕ, Bool, true, false}
use Rattle.tokens.specs.declared.cut.CutFault.{CutFault}
use Rattle.tokens.specs.declared.cut.CutFault.TheVariants as cut_fault
use Rattle.grammar.specs.declared.fault.GrammarFault.{GrammarFault}
use Rattle.grammar.specs.declared.fault.GrammarFault.TheVariants as fault
use Rattle.vparse.specs.declared.parser.ParseFault.{ParseFault}
use Rattle.vparse.specs.declared.parser.ParseFault.TheVariants.{Byte, Literal, Syntax, Unsized, Deep, Memory}

-- The fault of a text whose cut fails.
abbrev pub of_cut : CutFault → ParseFault
of_cut (cut_fault.Stray place) = Byte place
of_cut (cut_fault.BadNumber place) = Literal place
of_cut cut_fault.Memory = Memory

-- The fault of a text whose tokens are refused at a token.
abbrev pub of_tokens : GrammarFault → ℕ → ParseFault
of_tokens fault.Syntax n = Syntax n
of_tokens fault.Unsized n = Unsized n
of_tokens fault.Deep n = Deep n
of_tokens fault.Memory n = Memory

-- A fault that says that no module is spelled.
abbrev pub is_syntax : GrammarFault → Bool
is_syntax fault.Syntax = true
is_syntax fault.Unsized = true
is_syntax _ = false

-- What is wrong with the tokens of files.
use Rattle.std.specs.Prelude.{◌≡◌, ◌≤◌, ℕ, nat_lt, Bool, true, ◌&&◌, if◌then◌else◌, List, [], ◌∷◌, ◌++◌, length, map, Option, Some, None}
use Rattle.std.specs.List.{list_all}
use Rattle.lexemes.specs.declared.token.SourceFile.{SourceFile}
use Rattle.lexemes.specs.declared.token.VerilogToken.{VerilogToken}
use Rattle.preprocess.specs.Places.{stands_if_some}
use Rattle.preprocess.specs.declared.fault.Fault.{Fault}
use Rattle.preprocess.specs.declared.fault.Fault.TheVariants as text
use Rattle.expression_syntax.specs.declared.refusals.SyntaxRefusal.{SyntaxRefusal}
use Rattle.syntax.specs.declared.parser.SyntaxFault.{SyntaxFault}
use Rattle.syntax.specs.declared.parser.SyntaxReason.{SyntaxReason}
use Rattle.syntax.specs.declared.parser.TextFaults.{TextFaults}
use Rattle.design_faults.specs.Placing.{fault_at_token, without_place}
use Rattle.design_faults.specs.declared.refused.FoundFaults.{FoundFaults}
use Rattle.design_faults.specs.declared.refused.FoundFaults.TheVariants as found
use Rattle.design_faults.specs.declared.refused.PlacedFault.{PlacedFault}
use Rattle.design_faults.specs.declared.refused.WholeFault.{WholeFault}
use Rattle.design_faults.specs.declared.refused.WholeFault.TheVariants as fault
use Rattle.design_faults.specs.declared.refused.WholeRefusal.{WholeRefusal}
use Rattle.design_faults.specs.declared.refused.WholeRefusal.TheVariants as refusal
use Rattle.whole_designs.specs.declared.later.LaterPlace.{LaterPlace}

-- A fault stands in one of the files, if it has a place, and so does the use of the macro from which it comes.
abbrev pub is_placed : List SourceFile → PlacedFault → Bool
is_placed files wrong = stands_if_some files wrong.place && stands_if_some files wrong.used

-- There is a fault at least, and each stands in one of the files.
pub record AreFaultsIn (files : List SourceFile) (faults : List PlacedFault) : Type 0 where
  pub some : 1 ≤ length faults
  pub placed : list_all (is_placed files) faults ≡ true

-- So are those that are found, or memory is refused.
abbrev pub AreFoundIn : List SourceFile → FoundFaults → Type 0
AreFoundIn files found.Memory = Unit {0}
AreFoundIn files (found.Found them) = AreFaultsIn files them.items

-- So are those that are told, by the files that are told with them; or want of memory is told as such, or a path is told at which a file is to be looked up.
abbrev pub IsRefusalOf : WholeRefusal → Type 0
IsRefusalOf refusal.Memory = Unit {0}
IsRefusalOf (refusal.Wants path) = Unit {0}
IsRefusalOf (refusal.Refused told) = AreFaultsIn told.files.items told.faults.items

-- a fault at the token of a place at which something isn't supported yet
abbrev pub later_fault : List VerilogToken → LaterPlace → PlacedFault
later_fault tokens place = fault_at_token tokens place.token place.fault

-- These are faults at tokens.
pub record AreAtTokens (tokens : List VerilogToken) (faults : List PlacedFault) : Type 0 where
  pub places : List LaterPlace
  pub are_at : faults ≡ map (later_fault tokens) places

-- the fault of files of which no tokens come
abbrev pub text_fault : Fault → Option PlacedFault
text_fault text.Memory = None
text_fault text.TooMuchText = Some (without_place fault.TooMuchText)
text_fault (text.At kind place) = Some (record { fault = fault.Text kind; place = Some place; used = None })

-- the fault of tokens that are no modules: where they end, that they do
abbrev pub syntax_kind : ℕ → ℕ → SyntaxReason → WholeFault
syntax_kind count token reason = if nat_lt token count then fault.Syntax reason else fault.EarlyEnd reason

abbrev pub syntax_fault : List VerilogToken → SyntaxFault → PlacedFault
syntax_fault tokens wrong = fault_at_token tokens wrong.token (syntax_kind (length tokens) wrong.token wrong.reason)

abbrev pub syntax_fault_of : List VerilogToken → Option SyntaxFault → List PlacedFault
syntax_fault_of tokens None = []
syntax_fault_of tokens (Some wrong) = syntax_fault tokens wrong ∷ []

-- what is refused at a token
abbrev pub refused_at : List VerilogToken → SyntaxRefusal → PlacedFault
refused_at tokens lacked = fault_at_token tokens lacked.token (fault.Refused lacked.construct)

-- all that is wrong with tokens that are no modules: what is refused, in its order, and the fault
abbrev pub syntax_faults : List VerilogToken → TextFaults → List PlacedFault
syntax_faults tokens told = map (refused_at tokens) told.refusals.items ++ syntax_fault_of tokens told.fault

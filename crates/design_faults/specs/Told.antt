-- What is told of faults.
use Rattle.std.specs.Prelude.{List, [], ◌∷◌, ◌++◌, false, Option, Some, None, get_or, codes, decimal}
use Rattle.model.specs.Syntax.{Text}
use Rattle.lexemes.specs.declared.token.FileSpan.{FileSpan}
use Rattle.lexemes.specs.declared.token.SourceFile.{SourceFile}
use Rattle.source_texts.specs.declared.settings.LineMark.{LineMark}
use Rattle.source_texts.specs.Texts.{file_texts}
use Rattle.source_texts.specs.Lines.{PlainPlace, told_place}
use Rattle.locations.specs.SourceLocations.{location_of}
use Rattle.locations.specs.ShownText.{excerpt, shown_bytes}
use Rattle.design_faults.specs.declared.refused.PlacedFault.{PlacedFault}
use Rattle.design_faults.specs.Words.{fault_words}

-- the text of a place's file
abbrev pub text_around : List SourceFile → FileSpan → Text
text_around files place = get_or (file_texts files) place.file []

-- what stands before a message: a file and a line, as `line directives have them, and the column of the place in a terminal
abbrev pub head_with : Text → PlainPlace → FileSpan → Text
head_with around told place = shown_bytes false told.file ++ (codes ":" ++ (decimal told.line ++ (codes ":" ++ (decimal (location_of around place.begin).column ++ codes ": "))))

abbrev pub message_head : List SourceFile → List LineMark → FileSpan → Text
message_head files marks place = head_with (text_around files place) (told_place files marks place) place

-- a message at a place: its words, and the line of the place with a caret
unfoldable pub message_at : List SourceFile → List LineMark → FileSpan → Text → Text
message_at files marks place words = message_head files marks place ++ (words ++ (codes "\n" ++ excerpt (text_around files place) place.begin))

-- what is told at a place; where it comes of a macro, at the use of that, and the place in the macro's text behind it
abbrev pub told_at : List SourceFile → List LineMark → FileSpan → Option FileSpan → Text → Text
told_at files marks place None words = message_at files marks place words
told_at files marks place (Some used) words = message_at files marks used words ++ message_at files marks place (codes "note: here in the text of the macro")

-- what is told of a fault: its words alone in a line where it has no place
abbrev pub told_by : List SourceFile → List LineMark → Option FileSpan → Option FileSpan → Text → Text
told_by files marks None used words = words ++ codes "\n"
told_by files marks (Some place) used words = told_at files marks place used words

abbrev pub told_fault : List SourceFile → List LineMark → PlacedFault → Text
told_fault files marks wrong = told_by files marks wrong.place wrong.used (fault_words wrong.fault)

-- what is told of faults, one after another
abbrev pub told_faults : List SourceFile → List LineMark → List PlacedFault → Text
told_faults files marks [] = []
told_faults files marks (wrong ∷ faults) = told_fault files marks wrong ++ told_faults files marks faults

-- Of what a value change dump is made.
use Rattle.std.specs.Prelude.{◌≡◌, ℕ, List, map, string_bytes}
use Rattle.design.specs.Compiled.{Compiled, design_of}
use Rattle.model.specs.declared.entry.Entry.{Entry}
use Rattle.model.specs.Syntax.{Module}
use Rattle.lexemes.specs.declared.token.SourceFile.{SourceFile}
use Rattle.arguments.specs.declared.verilog_words.DesignWords.{DesignWords}
use Rattle.vparse.specs.Spells.{Spells}
use Rattle.frontend.specs.Sources.{IsDesignOf}
use Rattle.waves.specs.Dump.{vcd_text}
use Rattle.waves.specs.ScopedDump.{scoped_text}
use Rattle.waves.specs.Waves.{IsWaveOf}
use Rattle.waves.specs.declared.wave.Wave.{Wave}
use Rattle.whole_designs.specs.declared.whole.WholeDesign.{WholeDesign}
use Rattle.program.specs.Subjects.{IsModuleDesign, IsModuleOf, plain_design_scope}
use Rattle.program.specs.declared.subject.SourceTexts.{SourceTexts}
use Rattle.program.specs.declared.subject.SourceTexts.TheVariants as texts
use Rattle.program.specs.declared.waving.DumpedDesign.{DumpedDesign}
use Rattle.program.specs.declared.waving.DumpedScopes.{DumpedScopes}
use Rattle.program.specs.declared.waving.DumpedScopes.TheVariants as scopes

-- this is the name of the module that a source spells
abbrev pub IsNameOfModule : List ℕ → List ℕ → Type 0
IsNameOfModule source name = (parsed : Module) × Spells parsed source × (name ≡ parsed.name)

-- this is the design of a source, with the name of its module
abbrev pub IsDumpedSource : List ℕ → Compiled → DumpedScopes → Type 0
IsDumpedSource source design (scopes.One name) = IsDesignOf source design × IsNameOfModule source (string_bytes name)
IsDumpedSource source design (scopes.Several all) = ⊥

-- this is the design of the files of a whole design, with its scopes
abbrev pub IsDumpedWhole : List SourceFile → DesignWords → Compiled → DumpedScopes → Type 0
IsDumpedWhole files words design (scopes.One name) = ⊥
IsDumpedWhole files words design (scopes.Several all) = (made : WholeDesign) × IsModuleOf files words made × IsModuleDesign made design × (all ≡ made.scopes)

-- so it is of texts
abbrev pub IsDumpedIn : SourceTexts → Compiled → DumpedScopes → Type 0
IsDumpedIn (texts.Profile source) design found = IsDumpedSource source.items design found
IsDumpedIn (texts.Whole whole) design found = IsDumpedWhole whole.files.items whole.words.now design found

abbrev pub IsDumpedOf : SourceTexts → DumpedDesign → Type 0
IsDumpedOf found dumped = IsDumpedIn found dumped.design dumped.scopes

-- the text of a wave in such scopes
abbrev pub dump_text_in : DumpedScopes → Compiled → Wave → List ℕ
dump_text_in (scopes.One name) design wave = vcd_text (string_bytes name) design.names design.widths wave.changes.items wave.end
dump_text_in (scopes.Several all) design wave = scoped_text all.tick (map plain_design_scope all.scopes.items) design.names design.widths wave.changes.items wave.end

-- this is the text of a journal's wave
pub record IsDumpTextOf (dumped : DumpedDesign) (journal : List Entry) (text : List ℕ) : Type 0 where
  pub wave : Wave
  pub is_wave : IsWaveOf (design_of dumped.design) journal wave
  pub text_is : text ≡ dump_text_in dumped.scopes dumped.design wave

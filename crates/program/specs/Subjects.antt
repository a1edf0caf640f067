-- The design on which a command works, by what its words ask for.
use Rattle.std.specs.Prelude.{◌≡◌, ◌⊎◌, ℕ, false, List, [], ◌∷◌, map, Option, Some, None, option_map, string_bytes}
use Rattle.std.specs.Io.KnownBytes.{Appends, Keeps}
use Rattle.clap.specs.Words.{Text}
use Rattle.lexemes.specs.declared.token.SourceFile.{SourceFile}
use Rattle.locations.specs.SourceLocations.{AreProcesses}
use Rattle.model.specs.SourceTrees.{module_of}
use Rattle.model.specs.Elaboration.{declared}
use Rattle.model.specs.Elaboration as model
use Rattle.design.specs.Compiled.{Compiled, design_of}
use Rattle.frontend.specs.Sources.{IsDesignOf}
use Rattle.flattext.specs.Modules.{placed_module_text}
use Rattle.preprocess.specs.declared.preprocess.Definition.{Definition}
use Rattle.explain.specs.declared.telling.ExplainedDesign.{ExplainedDesign}
use Rattle.waves.specs.ScopedDump.{PlainScope}
use Rattle.whole_designs.specs.declared.whole.DesignScope.{DesignScope}
use Rattle.whole_designs.specs.declared.whole.WholeDesign.{WholeDesign}
use Rattle.whole_designs.specs.Wholes.{IsWholeDesignOf}
use Rattle.arguments.specs.declared.verilog_words.DesignWords.{DesignWords}
use Rattle.arguments.specs.VerilogWords.{AskWhole, IsSplit, plain_named, NamedText}
use Rattle.files.specs.Saved.{AddsFile, IsHeld, KeepsFiles, MadeFile}
use Rattle.program.specs.declared.ending.Ending.{Ending}
use Rattle.program.specs.declared.ending.Ending.TheVariants as ending
use Rattle.program.specs.declared.subject.AskedSource.{AskedSource}
use Rattle.program.specs.declared.subject.SourceTexts.{SourceTexts}
use Rattle.program.specs.declared.subject.SourceTexts.TheVariants as texts
use Rattle.program.specs.declared.subject.Judged.{Judged}
use Rattle.program.specs.declared.subject.Judged.TheVariants as judged
use Rattle.program.specs.declared.subject.DesignSubject.{DesignSubject}
use Rattle.program.specs.declared.subject.ModuleReading.{ModuleReading}
use Rattle.program.specs.declared.subject.ModuleReading.TheVariants as reading

-- what files hold at these paths, one after another, under the names of their paths
pub data AreHeldAt (holding : Option (List ℕ → List ℕ)) : List (List ℕ) → List SourceFile → Type 0 where
  no_file : AreHeldAt holding [] []
  one_file : (path : List ℕ) (file : SourceFile) (paths : List (List ℕ)) (files : List SourceFile) → string_bytes file.name ≡ path → IsHeld holding path file.text.items
      → AreHeldAt holding paths files → AreHeldAt holding (path ∷ paths) (file ∷ files)

-- these are the texts of the one FILE, or of all FILEs where words ask for a whole design
abbrev pub AreTextsAt : Option (List ℕ → List ℕ) → List ℕ → Option DesignWords → SourceTexts → Type 0
AreTextsAt holding file None (texts.Profile source) = IsHeld holding file source.items
AreTextsAt holding file None (texts.Whole whole) = ⊥
AreTextsAt holding file (Some words) (texts.Profile source) = ⊥
AreTextsAt holding file (Some words) (texts.Whole whole) = (whole.words.now ≡ words) × AreHeldAt holding (map (λ path. path.now) words.files.items) whole.files.items

abbrev pub AreTextsOf : Option (List ℕ → List ℕ) → AskedSource → SourceTexts → Type 0
AreTextsOf holding asked found = AreTextsAt holding asked.file.now (option_map (λ words. words.now) asked.words) found

-- the paths of the files that words ask for, beside FILE
abbrev pub paths_in : Option DesignWords → List (List ℕ)
paths_in None = []
paths_in (Some words) = map (λ path. path.now) words.files.items

abbrev pub paths_asked : AskedSource → List (List ℕ)
paths_asked asked = paths_in (option_map (λ words. words.now) asked.words)

-- the macros that words define
abbrev pub definition_named : Definition → NamedText
definition_named d = (d.name.now, option_map (λ text. text.now) d.text)

-- This is the flat module of texts, with the macros that words define.
pub record IsModuleOf (files : List SourceFile) (words : DesignWords) (made : WholeDesign) : Type 0 where
  pub definitions : List Definition
  pub defined : map definition_named definitions ≡ map plain_named words.definitions.items
  pub is_made : IsWholeDesignOf files definitions made

-- This is the design of a flat module, with the names of its variables.
pub record IsModuleDesign (made : WholeDesign) (design : Compiled) : Type 0 where
  pub is_design : design_of design ≡ model.design_of_module (module_of made.module)
  pub names : design.names ≡ map (λ d. d.0) (declared (module_of made.module))

-- So it is, with the places of its processes and with its scopes; it has no source of its own.
pub record IsDesignOfModule (made : WholeDesign) (subject : DesignSubject) : Type 0 where
  pub design : IsModuleDesign made subject.design
  pub processes : subject.processes ≡ made.processes
  pub source : subject.source.items ≡ []
  pub scopes : subject.scopes ≡ made.scopes

-- This is the design of a source, with its processes and with that source.
pub record IsSubjectOfSource (source : List ℕ) (subject : DesignSubject) : Type 0 where
  pub is_design : IsDesignOf source subject.design
  pub are_processes : AreProcesses source subject.processes.items
  pub source_is : subject.source.items ≡ source

-- this is the design of the files of a whole design
abbrev pub IsDesignOfFiles : List SourceFile → DesignWords → Compiled → Type 0
IsDesignOfFiles files words design = (made : WholeDesign) × IsModuleOf files words made × IsModuleDesign made design

-- the design of texts
abbrev pub IsDesignFor : SourceTexts → Compiled → Type 0
IsDesignFor (texts.Profile source) design = IsDesignOf source.items design
IsDesignFor (texts.Whole whole) design = IsDesignOfFiles whole.files.items whole.words.now design

-- the design on which a command works, with its processes, by the texts
abbrev pub IsSubjectIn : SourceTexts → DesignSubject → Type 0
IsSubjectIn (texts.Profile source) subject = IsSubjectOfSource source.items subject
IsSubjectIn (texts.Whole whole) subject = (made : WholeDesign) × IsModuleOf whole.files.items whole.words.now made × IsDesignOfModule made subject

-- what files hold, where that is known, and what words ask for a whole design
pub record Sources : Type 0 where
  pub held : Option (List ℕ → List ℕ)
  pub words : Option DesignWords

-- by a call's arguments
abbrev pub sources_with : Option (List ℕ → List ℕ) → Option DesignWords → Sources
sources_with held words = record { held = held; words = words }

-- This is so of a command line of the profile; or of what is left of one that asks for a whole design, and of what it asks.
abbrev pub BySplit : Option (List ℕ → List ℕ) → List Text → (Sources → List Text → Type 0) → Type 0
BySplit held words P =
    ((AskWhole words ≡ false) × P (sources_with held None) words)
    ⊎ ((asked : DesignWords) × (rest : List Text) × IsSplit words asked rest × P (sources_with held (Some asked)) rest)

-- these words are a whole command line; or what is left of one that asks for a whole design
abbrev pub AreLeft : List Text → Option DesignWords → List Text → Type 0
AreLeft all None words = all ≡ words
AreLeft all (Some asked) words = IsSplit all asked words

-- the design that is asked for, with its processes
abbrev pub IsSubjectAt : Sources → List ℕ → DesignSubject → Type 0
IsSubjectAt from file subject = (found : SourceTexts) × AreTextsAt from.held file from.words found × IsSubjectIn found subject

abbrev pub IsDesignIn : Sources → List ℕ → Compiled → Type 0
IsDesignIn from file design = (found : SourceTexts) × AreTextsAt from.held file from.words found × IsDesignFor found design

-- a design that some texts have
abbrev pub IsSoundDesign : Compiled → Type 0
IsSoundDesign design = (found : SourceTexts) × IsDesignFor found design

-- a journal is told on the design that is asked for, by its processes
abbrev pub IsExplainedAt : Sources → List ℕ → ExplainedDesign → Type 0
IsExplainedAt from file told = (subject : DesignSubject) × IsSubjectAt from file subject × (told.design.now ≡ subject.design) × (told.processes.now ≡ subject.processes.items)

-- a scope, as a dump has it
abbrev pub plain_design_scope : DesignScope → PlainScope
plain_design_scope s = record { path = string_bytes s.path; is_instance = s.is_instance }

-- what is judged; of texts that are wrong nothing is said
abbrev pub IfTaken : {X : Type 0} → Judged X → (X → Type 0) → Type 0
IfTaken (judged.Taken x) P = P x
IfTaken (judged.Wrong text) P = Unit {0}

-- so it is of what was read, and nothing is said where a file is to be looked up
abbrev pub IfModuleRead : ModuleReading → (WholeDesign → Type 0) → Type 0
IfModuleRead (reading.Judged judged) P = IfTaken judged P
IfModuleRead (reading.Wants path) P = Unit {0}

-- so it is of texts, and those of the profile are never told as wrong
abbrev pub IfJudged : {X : Type 0} → SourceTexts → Judged X → (X → Type 0) → Type 0
IfJudged found (judged.Taken x) P = P x
IfJudged (texts.Profile source) (judged.Wrong text) P = ⊥
IfJudged (texts.Whole whole) (judged.Wrong text) P = Unit {0}

abbrev pub IsJudgedSubject : SourceTexts → Judged DesignSubject → Type 0
IsJudgedSubject found result = IfJudged found result (IsSubjectIn found)

abbrev pub IsJudgedDesign : SourceTexts → Judged Compiled → Type 0
IsJudgedDesign found result = IfJudged found result (IsDesignFor found)

-- a whole design is judged
abbrev pub IsJudgedWhole : List SourceFile → DesignWords → Judged DesignSubject → Type 0
IsJudgedWhole files words result = IfTaken result (λ subject. (made : WholeDesign) × IsModuleOf files words made × IsDesignOfModule made subject)

abbrev pub IsJudgedModule : List SourceFile → DesignWords → Judged WholeDesign → Type 0
IsJudgedModule files words result = IfTaken result (IsModuleOf files words)

-- The FILEs hold texts of which this is the text of the flat module.
pub record IsFlatTextOf (holding : Option (List ℕ → List ℕ)) (words : DesignWords) (text : List ℕ) : Type 0 where
  pub files : List SourceFile
  pub held : AreHeldAt holding (map (λ path. path.now) words.files.items) files
  pub made : WholeDesign
  pub is_module : IsModuleOf files words made
  pub text_is : text ≡ placed_module_text (map (λ p. string_bytes p.at) made.processes.items) (module_of made.module)

-- it was put at a path, where one is given, and else output has grown by it
abbrev pub IsPut : Option (List ℕ) → List ℕ → Option (List ℕ) → Option (List ℕ) → Option (List MadeFile) → Option (List MadeFile) → Type 0
IsPut None text old new files files' = Appends old new text × KeepsFiles files files'
IsPut (Some path) text old new files files' = Keeps old new × AddsFile files files' (record { path = path; bytes = text })

-- The flat module was written, or what is wrong with the texts is told, and output and files are as they were.
abbrev pub HasFlattened : Option (List ℕ → List ℕ) → DesignWords → Option (List ℕ) → Option (List ℕ) → Option (List ℕ) → Option (List MadeFile) → Option (List MadeFile) → Ending → Type 0
HasFlattened holding words path old new files files' ending.Done = (text : List ℕ) × IsFlatTextOf holding words text × IsPut path text old new files files'
HasFlattened holding words path old new files files' (ending.Wrong text) = Keeps old new × KeepsFiles files files'
HasFlattened holding words path old new files files' (ending.Stopped s) = ⊥
HasFlattened holding words path old new files files' (ending.Found f) = ⊥
HasFlattened holding words path old new files files' (ending.NoRegister name) = ⊥
HasFlattened holding words path old new files files' ending.Differ = ⊥

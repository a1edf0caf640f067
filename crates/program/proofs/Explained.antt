-- What is left of a journal that was told, and of one with a fault.
use Rattle.std.proofs.Common.{◌≡◌, ◌∙◌, ap, refl, subst, sym, inl, inr, ℕ, List, ◌++◌, Option, Some, None, option_map, unwrap_or, Result, Ok, Err, IfOk, IfErr, codes, drop, Bool, string_bytes}
use Rattle.std.specs.Io.KnownBytes.{Appends, Keeps}
use Rattle.clap.specs.Words.{Text, first_of}
use Rattle.design.specs.Compiled.{Compiled}
use Rattle.arguments.specs.declared.request.ExplainRequest.{ExplainRequest}
use Rattle.arguments.specs.CommandWords.{AsksExplain, explain_rows, number_given, radix_given}
use Rattle.explain.specs.declared.failure.ExplainFault.{ExplainFault}
use Rattle.explain.specs.declared.failure.ExplainFault.TheVariants as explaining
use Rattle.explain.specs.declared.telling.Presentation.{Presentation}
use Rattle.explain.specs.Explained.{IfExplainReplay, IsLawfulJournalText, UnlessExplainBegun}
use Rattle.explain.specs.ExplainedText.{ExplainsText, ExplainsTextFault, presentation_of}
use Rattle.program.specs.declared.fault.CommandFault.{CommandFault}
use Rattle.literals.specs.declared.literal.Radix.{Radix}
use Rattle.program.specs.Presentations.{presentation_for, presentation_in, style_for}
use Rattle.std.specs.Borrow.{Bor}
use Rattle.locations.specs.declared.location.ProcessLocation.{ProcessLocation}
use Rattle.explain.specs.declared.telling.ExplainedDesign.{ExplainedDesign}
use Rattle.wavetexts.specs.Names.{NamesRegisters}
use Rattle.program.specs.AskedRegisters.{AreAsked}
use Rattle.program.specs.declared.explaining.AskedRegisters.{AskedRegisters}
use Rattle.program.specs.declared.explaining.AskedRegisters.TheVariants as wanted
use Rattle.program.specs.Observed.{IsNameTold}
use Rattle.program.specs.Printed.{AreAskedFor, HasEnded, HasExplained, HasExplainedPart, HasExplainedSome, HasExplainedByWords, HasExplainedTo, LacksRegister, explained}
use Rattle.program.specs.declared.ending.Ending.{Ending}
use Rattle.program.specs.declared.ending.Ending.TheVariants as ending
use Rattle.program.specs.Program.{explain_fault, status_of}
use Rattle.program.specs.Subjects.{IsExplainedAt, Sources}
use Rattle.program.proofs.Ended.{design_refused, no_check}
use Rattle.files.specs.Saved.{IsOpened, KeepsFiles, MadeFile}

-- output that nothing was written to
pub same_output : (known : Option (List ℕ)) → Keeps known known
same_output None = tt
same_output (Some xs) = refl

-- what was written, and then sent off
pub appends_kept : (a b c : Option (List ℕ)) (xs : List ℕ) → Appends a b xs → Keeps b c → Appends a c xs
appends_kept None b c xs h k = tt
appends_kept (Some a) None c xs h k = absurd h
appends_kept (Some a) (Some b) None xs h k = absurd k
appends_kept (Some a) (Some b) (Some c) xs h k = k ∙ h

told_on : (processes : List ProcessLocation) (code : Compiled) (registers : Option (List ℕ)) (presentation : Presentation) (left a b c : Option (List ℕ)) → ExplainsText processes code registers presentation left a b → Keeps b c
    → ExplainsText processes code registers presentation left a c
told_on processes code registers presentation left a b c h k = record {
  journal = h.journal;
  is_read = h.is_read;
  explains = record {
    telling = h.explains.telling;
    is_telling = h.explains.is_telling;
    tells = record {
      effect = h.explains.tells.effect;
      is_run = h.explains.tells.is_run;
      lines = h.explains.tells.lines;
      are_lines = h.explains.tells.are_lines;
      ending = h.explains.tells.ending;
      is_ending = h.explains.tells.is_ending;
      grown = appends_kept a b c (h.explains.tells.lines ++ h.explains.tells.ending) h.explains.tells.grown k;
    };
  };
}

pub explained_by : (from : Sources) (file journal : List ℕ) (names : Option (List ℕ)) (told : ExplainedDesign) (registers : Option (List ℕ)) (presentation : Presentation) (left a b c : Option (List ℕ))
    → IsExplainedAt from file told → IsOpened from.held journal left → AreAskedFor told.design.now names registers → IsLawfulJournalText told.design.now left
    → ExplainsText told.processes.now told.design.now registers presentation left a b → Keeps b c → HasExplained from file journal names presentation a c
explained_by from file journal names told registers presentation left a b c (subject, is_subject, design_is, processes_are) opened asked lawful h k = record {
  subject = subject;
  is_subject = is_subject;
  left = left;
  opened = opened;
  lawful = subst (λ (d : Compiled). IsLawfulJournalText d left) design_is lawful;
  registers = registers;
  are_asked = subst (λ (d : Compiled). AreAskedFor d names registers) design_is asked;
  explains = told_on subject.processes.items subject.design registers presentation left a b c
      (subst (λ (ps : List ProcessLocation). ExplainsText ps subject.design registers presentation left a b) processes_are
      (subst (λ (d : Compiled). ExplainsText told.processes.now d registers presentation left a b) design_is h)) k;
}

-- no journal was read, or one was told up to its fault
pub refused_of : (from : Sources) (file journal : List ℕ) (names : Option (List ℕ)) (told : ExplainedDesign) (registers : Option (List ℕ)) (presentation : Presentation) (left a b : Option (List ℕ)) (f : ExplainFault)
    → IsExplainedAt from file told → IsOpened from.held journal left → AreAskedFor told.design.now names registers → UnlessExplainBegun {X = Unit {0}} (Err f) (Keeps a b)
    → IfExplainReplay {X = Unit {0}} (Err f) (ExplainsTextFault told.processes.now told.design.now registers presentation left a b) → status_of (explain_fault f) ≡ 5
    → HasExplainedSome from file journal names presentation a b (explain_fault f)
refused_of from file journal names told registers presentation left a b (explaining.Read f) at opened asked h t e = inl h
refused_of from file journal names told registers presentation left a b (explaining.Replay f) (subject, is_subject, design_is, processes_are) opened asked h t e =
    inr (
      f,
      refl,
      record {
        subject = subject;
        is_subject = is_subject;
        left = left;
        opened = opened;
        registers = registers;
        are_asked = subst (λ (d : Compiled). AreAskedFor d names registers) design_is asked;
        explains = subst (λ (ps : List ProcessLocation). ExplainsTextFault ps subject.design registers presentation left a b f) processes_are
            (subst (λ (d : Compiled). ExplainsTextFault told.processes.now d registers presentation left a b f) design_is t);
      },
    )
refused_of from file journal names told registers presentation left a b explaining.CannotWrite at opened asked h t e = cc
refused_of from file journal names told registers presentation left a b explaining.Memory at opened asked h t e = cc

-- the registers that are asked for

pub every_asked : (code : Compiled) (names : Option (List ℕ)) (a : AskedRegisters) → AreAsked code names a → a ≡ wanted.Every → AreAskedFor code names None
every_asked code names a h is =
    let none : names ≡ None = subst (AreAsked code names) is h in
    subst (λ (n : Option (List ℕ)). AreAskedFor code n None) (sym none) refl

pub named_asked_for : (code : Compiled) (names : Option (List ℕ)) (registers list : List ℕ) → (text : List ℕ) × (names ≡ Some text) × NamesRegisters code.names text registers → list ≡ registers → AreAskedFor code names (Some list)
named_asked_for code names registers list got same =
    subst (λ (n : Option (List ℕ)). AreAskedFor code n (Some list)) (sym got.1) (list, refl, subst (NamesRegisters code.names got.0) (sym same) got.2)

pub unknown_asked : (from : Sources) (file : List ℕ) (told : ExplainedDesign) (names : Option (List ℕ)) (a : AskedRegisters) (name : Bor (List ℕ)) → IsExplainedAt from file told → AreAsked told.design.now names a
    → a ≡ wanted.Unknown name → LacksRegister from file names name.now
unknown_asked from file told names a name (subject, is_subject, design_is, processes_are) h is =
    let got = subst (AreAsked told.design.now names) is h in
    record { subject = subject; is_subject = is_subject; design = told.design.now; is_design = sym design_is; list = got.0; is_list = got.1; unknown = got.2 }

-- of some registers alone a journal is told on the same design
pub alone_at : (from : Sources) (file : List ℕ) (told alone : ExplainedDesign) → alone.processes.now ≡ told.processes.now → alone.design.now ≡ told.design.now → IsExplainedAt from file told → IsExplainedAt from file alone
alone_at from file told alone processes design (subject, is_subject, design_is, processes_are) = (subject, is_subject, design ∙ design_is, processes ∙ processes_are)

-- a name that no register has ends the telling of a journal
name_told : (from : Sources) (file journal : List ℕ) (names : Option (List ℕ)) (presentation : Presentation) (name : List ℕ) (known : Option (List ℕ)) (e : Ending) → LacksRegister from file names name
    → IsNameTold name e → HasExplainedTo from file journal names presentation known known e
name_told from file journal names presentation name known ending.Done lacks told = absurd told
name_told from file journal names presentation name known (ending.Stopped s) lacks told = absurd told
name_told from file journal names presentation name known (ending.Found f) lacks told = absurd told
name_told from file journal names presentation name known (ending.Wrong text) lacks told = absurd told
name_told from file journal names presentation name known (ending.NoRegister it) lacks told = (subst (LacksRegister from file names) (sym told) lacks, same_output known)
name_told from file journal names presentation name known ending.Differ lacks told = absurd told

pub name_told_if : {E : Type 0} (from : Sources) (file journal : List ℕ) (names : Option (List ℕ)) (presentation : Presentation) (name : List ℕ) (known : Option (List ℕ)) (r : Result Ending E)
    → LacksRegister from file names name → IfOk r (IsNameTold name) → IfOk r (HasExplainedTo from file journal names presentation known known)
name_told_if from file journal names presentation name known (Ok e) lacks told = name_told from file journal names presentation name known e lacks told
name_told_if from file journal names presentation name known (Err f) lacks told = tt

-- the presentation of a request is that of its words
presentation_asked : (words : List Text) (explain : ExplainRequest) → AsksExplain words explain → presentation_for explain ≡ presentation_in words
presentation_asked words explain asks =
    let begin : ℕ = unwrap_or (number_given (codes "from") (explain_rows (drop 1 words))) 1 in
    let to : Option ℕ = number_given (codes "to") (explain_rows (drop 1 words)) in
    let from_time : ℕ = unwrap_or (number_given (codes "from-time") (explain_rows (drop 1 words))) 0 in
    let to_time : Option ℕ = number_given (codes "to-time") (explain_rows (drop 1 words)) in
    let radix : Radix = radix_given (explain_rows (drop 1 words)) in
    ap (λ (n : ℕ). presentation_of n explain.to explain.from_time explain.to_time (style_for explain)) asks.is_explain.from
    ∙ (ap (λ (n : Option ℕ). presentation_of begin n explain.from_time explain.to_time (style_for explain)) asks.is_explain.to
    ∙ (ap (λ (n : ℕ). presentation_of begin to n explain.to_time (style_for explain)) asks.is_explain.from_time
    ∙ (ap (λ (n : Option ℕ). presentation_of begin to from_time n (style_for explain)) asks.is_explain.to_time
    ∙ (ap (λ (r : Radix). presentation_of begin to from_time to_time (record { radix = r; versions = explain.versions })) asks.is_explain.radix
    ∙ ap (λ (v : Bool). presentation_of begin to from_time to_time (record { radix = radix; versions = v })) asks.is_explain.versions))))

-- the registers are asked for by the names of the words
names_asked : (words : List Text) (explain : ExplainRequest) → AsksExplain words explain → option_map (λ names. names.now) explain.registers ≡ first_of (codes "registers") (explain_rows (drop 1 words))
names_asked words explain asks = sym asks.is_explain.registers

pub told_performed : (from : Sources) (words : List Text) (explain : ExplainRequest) (old new : Option (List ℕ)) (files files' : Option (List MadeFile)) → AsksExplain words explain
    → HasExplained from explain.file.now explain.journal.now (option_map (λ names. names.now) explain.registers) (presentation_for explain) old new → KeepsFiles files files' → HasExplainedByWords from words old new files files'
told_performed from words explain old new files files' asks h k = record {
  begins = asks.begins;
  file = explain.file.now;
  is_file = asks.is_explain.file;
  journal = explain.journal.now;
  is_journal = asks.is_explain.journal;
  explained = subst (λ (n : Option (List ℕ)). HasExplained from explain.file.now explain.journal.now n (presentation_in words) old new) (names_asked words explain asks)
      (subst (λ (w : Presentation). HasExplained from explain.file.now explain.journal.now (option_map (λ names. names.now) explain.registers) w old new) (presentation_asked words explain asks) h);
  unsaved = k;
}

-- the telling of a journal ends as that of a command
telling_ended : (from : Sources) (words : List Text) (explain : ExplainRequest) (old new : Option (List ℕ)) (files files' : Option (List MadeFile)) (e : Ending) → AsksExplain words explain
    → HasExplainedTo from explain.file.now explain.journal.now (option_map (λ names. names.now) explain.registers) (presentation_for explain) old new e → KeepsFiles files files' → HasEnded from words old new files files' e
telling_ended from words explain old new files files' ending.Done asks h k = explained (told_performed from words explain old new files files' asks h k)
telling_ended from words explain old new files files' (ending.Stopped s) asks h k = absurd h
telling_ended from words explain old new files files' (ending.Found f) asks h k = absurd h
telling_ended from words explain old new files files' (ending.Wrong text) asks (whole, same) k =
    inr (design_refused from words old new files files' (no_check words (codes "explain") refl asks.begins) (whole, same, k))
telling_ended from words explain old new files files' (ending.NoRegister name) asks (lacks, same) k = inr (record {
  begins = asks.begins;
  file = explain.file.now;
  is_file = asks.is_explain.file;
  lacks = subst (λ (n : Option (List ℕ)). LacksRegister from explain.file.now n (string_bytes name)) (names_asked words explain asks) lacks;
  unprinted = same;
  unsaved = k;
})
telling_ended from words explain old new files files' ending.Differ asks h k = absurd h

pub telling_performed : (from : Sources) (words : List Text) (explain : ExplainRequest) (old new : Option (List ℕ)) (files files' : Option (List MadeFile)) (r : Result Ending CommandFault) → AsksExplain words explain
    → IfOk r (HasExplainedTo from explain.file.now explain.journal.now (option_map (λ names. names.now) explain.registers) (presentation_for explain) old new) → KeepsFiles files files'
    → IfOk r (HasEnded from words old new files files')
telling_performed from words explain old new files files' (Ok e) asks h k = telling_ended from words explain old new files files' e asks h k
telling_performed from words explain old new files files' (Err f) asks h k = tt

-- so it is where the journal isn't told to its end
part_performed : (from : Sources) (words : List Text) (explain : ExplainRequest) (old new : Option (List ℕ)) (f : CommandFault) → AsksExplain words explain
    → (status_of f ≡ 5 → HasExplainedSome from explain.file.now explain.journal.now (option_map (λ names. names.now) explain.registers) (presentation_for explain) old new f) → status_of f ≡ 5 → HasExplainedPart from words old new f
part_performed from words explain old new f asks h e = record {
  file = explain.file.now;
  is_file = asks.is_explain.file;
  journal = explain.journal.now;
  is_journal = asks.is_explain.journal;
  some = subst (λ (n : Option (List ℕ)). HasExplainedSome from explain.file.now explain.journal.now n (presentation_in words) old new f) (names_asked words explain asks)
      (subst (λ (w : Presentation). HasExplainedSome from explain.file.now explain.journal.now (option_map (λ names. names.now) explain.registers) w old new f) (presentation_asked words explain asks) (h e));
}

pub refused_performed : (from : Sources) (words : List Text) (explain : ExplainRequest) (old new : Option (List ℕ)) (r : Result Ending CommandFault) → AsksExplain words explain
    → IfErr r (λ f. status_of f ≡ 5 → HasExplainedSome from explain.file.now explain.journal.now (option_map (λ names. names.now) explain.registers) (presentation_for explain) old new f)
    → IfErr r (λ f. status_of f ≡ 5 → HasExplainedPart from words old new f)
refused_performed from words explain old new (Ok e) asks h = tt
refused_performed from words explain old new (Err f) asks h = part_performed from words explain old new f asks h

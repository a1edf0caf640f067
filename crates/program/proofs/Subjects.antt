-- What is asked for, as it is read and judged.
use Rattle.std.proofs.Common.{◌≡◌, ◌≢◌, ◌⊎◌, ◌==◌, false, true, inl, inr, codes, ◌++◌, ◌+◌, ◌<◌, ◌∙◌, ℕ, List, [], ◌∷◌, map, take, get_or, length, Option, Some, None, option_map, Result, Ok, Err, IfOk, IfErr, OnErr, OnOk, string_bytes, refl, sym, subst, ap}
use Rattle.std.specs.Prelude.{IsSome}
use Rattle.std.specs.Str.{bytes_eq}
use Rattle.std.specs.Io.KnownBytes.{Keeps}
use Rattle.std.specs.Borrow.{Bor}
use Rattle.std.specs.Global.{Vec}
use Rattle.std.specs.List.{All}
use Rattle.std.proofs.lemmas.List.{map-append, take_more}
use Rattle.std.proofs.lemmas.List.Elements.{All-map, All-push}
use Rattle.lexemes.specs.declared.token.SourceFile.{SourceFile}
use Rattle.model.specs.declared.entry.Entry.{Entry}
use Rattle.design.specs.Compiled.{Compiled}
use Rattle.frontend.specs.Sources.{IsDesignOf}
use Rattle.clap.specs.Words.{Text}
use Rattle.replay.specs.ReplayBytes.{PrintsOn}
use Rattle.waves.specs.Dump.{vcd_text}
use Rattle.waves.specs.ScopedDump.{PlainScope, plain_scope, scoped_text}
use Rattle.waves.specs.declared.scoped.ShownScope.{ShownScope}
use Rattle.waves.specs.declared.wave.Wave.{Wave}
use Rattle.whole_designs.specs.declared.whole.DesignScope.{DesignScope}
use Rattle.whole_designs.specs.declared.whole.DesignScopes.{DesignScopes}
use Rattle.preprocess.specs.declared.preprocess.Definition.{Definition}
use Rattle.whole_designs.specs.declared.whole.WholeDesign.{WholeDesign}
use Rattle.whole_designs.specs.Wholes.{IsWholeDesignOf}
use Rattle.arguments.specs.declared.verilog_words.DesignWords.{DesignWords}
use Rattle.arguments.specs.VerilogWords.{AskWhole, IsNoDesign, IsRefusalText, LacksWord, plain_named}
use Rattle.arguments.specs.declared.run_options.RunOptions.{RunOptions}
use Rattle.arguments.specs.declared.request.FlattenRequest.{FlattenRequest}
use Rattle.arguments.specs.declared.request.NoRequest.{NoRequest}
use Rattle.arguments.specs.declared.request.NoRequest.TheVariants as no_request
use Rattle.arguments.specs.declared.request.ReplayRequest.{ReplayRequest}
use Rattle.arguments.specs.CommandWords.{AreWrong, AsksFlatten, AsksReplay, Begins, IsNoRequest}
use Rattle.files.specs.Saved.{IsHeld, IsOpened, KeepsFiles, KeepsHeld, MadeFile}
use Rattle.program.specs.declared.ending.Ending.{Ending}
use Rattle.program.specs.declared.ending.Ending.TheVariants as ending
use Rattle.program.specs.declared.waving.DumpedDesign.{DumpedDesign}
use Rattle.program.specs.declared.waving.DumpedScopes.{DumpedScopes}
use Rattle.program.specs.declared.waving.DumpedScopes.TheVariants as scopes
use Rattle.program.specs.declared.fault.CommandFault.{CommandFault}
use Rattle.program.specs.declared.fault.Stop.{Stop}
use Rattle.program.specs.declared.subject.AskedSource.{AskedSource}
use Rattle.program.specs.declared.subject.WholeTexts.{WholeTexts}
use Rattle.program.specs.declared.subject.SourceTexts.{SourceTexts}
use Rattle.program.specs.declared.subject.SourceTexts.TheVariants as texts
use Rattle.program.specs.declared.subject.Judged.{Judged}
use Rattle.program.specs.declared.subject.Judged.TheVariants as judged
use Rattle.program.specs.declared.subject.DesignSubject.{DesignSubject}
use Rattle.program.specs.Dumps.{IsDumpedIn, IsDumpedOf, IsDumpedSource, IsDumpedWhole, IsDumpTextOf, dump_text_in}
use Rattle.program.specs.Printed.{HasChecked, HasEnded, HasPrintedBy, HasReplayed, HasRunTo, HasSourceFault, IsDone, IsDumpOf, IsDumpText, IsRight, IsUnprinted, IsWrong, flattened, replayed}
use Rattle.program.specs.Program.{IsNoRequestStatus, ending_of, status_of}
use Rattle.program.specs.Subjects.{AreHeldAt, AreLeft, AreTextsAt, AreTextsOf, HasFlattened, IfJudged, IfTaken, IsDesignFor, IsDesignIn, IsDesignOfFiles, IsDesignOfModule, IsFlatTextOf, IsJudgedDesign, IsJudgedModule, IsJudgedSubject, IsJudgedWhole, IsModuleOf, IsPut, IsSoundDesign, IsSubjectAt, IsSubjectIn, IsSubjectOfSource, Sources, definition_named, no_file, one_file, paths_asked, plain_design_scope}
use Rattle.program.proofs.Ended.{added_on, begins_all, design_refused, kept_on, no_check, wrong_usage}
use Rattle.program.proofs.Explained.{appends_kept}

-- what is so of all so far, and of one more
pub all_next : {X : Type 0} (P : X → Type 0) (xs : List X) (i : ℕ) (d : X) → i < length xs → All P (take i xs) → P (get_or xs i d) → All P (take (i + 1) xs)
all_next P xs i d h all one = subst (All P) (sym (take_more xs i d h)) (All-push P (take i xs) (get_or xs i d) all one)

-- what is so of all paths is so of those that words ask for
pub paths_of_words : (P : List ℕ → Type 0) (asked : AskedSource) (words : Bor DesignWords) → asked.words ≡ Some words → All P (map (λ path. path.now) words.now.files.items) → All P (paths_asked asked)
paths_of_words P asked words is all =
    subst (λ (o : Option (Bor DesignWords)). All P (paths_asked (record { file = asked.file; words = o }))) (sym is) all

-- so it is of an answer
pub words_spared : {T E : Type 0} (r : Result T E) (P : List ℕ → Type 0) (asked : AskedSource) (words : Bor DesignWords) (paths : List (Bor (List ℕ))) → asked.words ≡ Some words → paths ≡ words.now.files.items
    → OnOk r (All (λ path. P path.now) paths) → OnOk r (All P (paths_asked asked))
words_spared (Ok x) P asked words paths is same all =
    paths_of_words P asked words is
    (All-map P (λ path. path.now) words.now.files.items (subst (λ (ps : List (Bor (List ℕ))). All (λ (path : Bor (List ℕ)). P path.now) ps) same all))
words_spared (Err e) P asked words paths is same all = tt

-- ---- texts that are read

-- what files hold stays known
pub held_text_on : (a b : Option (List ℕ → List ℕ)) (path text : List ℕ) → KeepsHeld a b → IsHeld b path text → IsHeld a path text
held_text_on None b path text h k = tt
held_text_on (Some holds) b path text h k = subst (λ (o : Option (List ℕ → List ℕ)). IsHeld o path text) h k

pub holding_on : (a b c : Option (List ℕ → List ℕ)) → KeepsHeld a b → KeepsHeld b c → KeepsHeld a c
holding_on None b c h k = tt
holding_on (Some holds) b c h k = subst (λ (o : Option (List ℕ → List ℕ)). KeepsHeld o c) h k

pub holding : (a : Option (List ℕ → List ℕ)) → KeepsHeld a a
holding None = tt
holding (Some holds) = refl

-- one file behind others
held_behind : (held : Option (List ℕ → List ℕ)) (paths : List (List ℕ)) (files : List SourceFile) (path : List ℕ) (file : SourceFile) → AreHeldAt held paths files → string_bytes file.name ≡ path
    → IsHeld held path file.text.items → AreHeldAt held (paths ++ path ∷ []) (files ++ file ∷ [])
held_behind held _ _ path file no_file name text = one_file path file [] [] name text no_file
held_behind held _ _ path file (one_file p f paths files n t rest) name text =
    one_file p f (paths ++ path ∷ []) (files ++ file ∷ []) n t (held_behind held paths files path file rest name text)

pub one_more_held : (start now : Option (List ℕ → List ℕ)) (paths : List (Bor (List ℕ))) (i : ℕ) (d : Bor (List ℕ)) (old new : List SourceFile) (file : SourceFile) → i < length paths
    → AreHeldAt start (map (λ p. p.now) (take i paths)) old → KeepsHeld start now → (string_bytes file.name ≡ (get_or paths i d).now) × IsHeld now (get_or paths i d).now file.text.items → new ≡ old ++ file ∷ []
    → AreHeldAt start (map (λ p. p.now) (take (i + 1) paths)) new
one_more_held start now paths i d old new file h so_far keeps read put =
    let plain = λ (p : Bor (List ℕ)). p.now in
    let path : Bor (List ℕ) = get_or paths i d in
    let taken : take (i + 1) paths ≡ take i paths ++ path ∷ [] = take_more paths i d h in
    let mapped : map plain (take (i + 1) paths) ≡ map plain (take i paths) ++ path.now ∷ [] = ap (map plain) taken ∙ map-append plain (take i paths) (path ∷ []) in
    subst (λ (ps : List (List ℕ)). AreHeldAt start ps new) (sym mapped)
    (subst (AreHeldAt start (map plain (take i paths) ++ path.now ∷ [])) (sym put)
    (held_behind start (map plain (take i paths)) old path.now file so_far read.0 (held_text_on start now path.now file.text.items keeps read.1)))

pub whole_read : (held : Option (List ℕ → List ℕ)) (asked : AskedSource) (words : Bor DesignWords) (files : Vec SourceFile) → asked.words ≡ Some words
    → AreHeldAt held (map (λ path. path.now) words.now.files.items) files.items → AreTextsOf held asked (texts.Whole (record { files = files; words = words }))
whole_read held asked words files is are =
    subst (λ (o : Option (Bor DesignWords)). AreTextsAt held asked.file.now (option_map (λ w. w.now) o) (texts.Whole (record { files = files; words = words }))) (sym is) (refl, are)

pub profile_read : (held : Option (List ℕ → List ℕ)) (asked : AskedSource) (source : Vec ℕ) → asked.words ≡ None → IsHeld held asked.file.now source.items → AreTextsOf held asked (texts.Profile source)
profile_read held asked source is read =
    subst (λ (o : Option (Bor DesignWords)). AreTextsAt held asked.file.now (option_map (λ w. w.now) o) (texts.Profile source)) (sym is) read

-- ---- texts that are judged

-- what is taken
pub taken : {X : Type 0} (P : X → Type 0) (found : SourceTexts) (result : Judged X) (x : X) → IfJudged found result P → result ≡ judged.Taken x → P x
taken P found result x is e = subst (λ r. IfJudged found r P) e is

-- only a whole design is told as wrong
wrong_words : {X : Type 0} (P : X → Type 0) (held : Option (List ℕ → List ℕ)) (file : List ℕ) (words : Option DesignWords) (found : SourceTexts) (text : _) → AreTextsAt held file words found
    → IfJudged found (judged.Wrong text) P → IsSome words
wrong_words P held file words (texts.Profile source) text are is = absurd is
wrong_words P held file None (texts.Whole whole) text are is = absurd are
wrong_words P held file (Some words) (texts.Whole whole) text are is = refl

pub asks_whole : {X : Type 0} (P : X → Type 0) (held : Option (List ℕ → List ℕ)) (file : List ℕ) (words : Option DesignWords) (found : SourceTexts) (result : Judged X) (text : _)
    → AreTextsAt held file words found → IfJudged found result P → result ≡ judged.Wrong text → IsSome words
asks_whole P held file words found result text are is e = wrong_words P held file words found text are (subst (λ r. IfJudged found r P) e is)

pub design_taken : (from : Sources) (file : List ℕ) (found : SourceTexts) (result : Judged Compiled) (design : Compiled) → AreTextsAt from.held file from.words found → IfJudged found result (IsDesignFor found)
    → result ≡ judged.Taken design → IsDesignIn from file design
design_taken from file found result design are is e = (found, are, taken (IsDesignFor found) found result design is e)

pub sound_taken : (found : SourceTexts) (result : Judged Compiled) (design : Compiled) → IfJudged found result (IsDesignFor found) → result ≡ judged.Taken design → IsSoundDesign design
sound_taken found result design is e = (found, taken (IsDesignFor found) found result design is e)

pub subject_taken : (from : Sources) (file : List ℕ) (found : SourceTexts) (result : Judged DesignSubject) (subject : DesignSubject) → AreTextsAt from.held file from.words found
    → IfJudged found result (IsSubjectIn found) → result ≡ judged.Taken subject → IsSubjectAt from file subject
subject_taken from file found result subject are is e = (found, are, taken (IsSubjectIn found) found result subject is e)

-- the module of texts, with the macros that words define
pub module_judged : {E : Type 0} (result : Result (Judged WholeDesign) E) (files : List SourceFile) (words : DesignWords) (definitions : List Definition)
    → map definition_named definitions ≡ map plain_named words.definitions.items → IfOk result (λ r. IfTaken r (IsWholeDesignOf files definitions)) → IfOk result (IsJudgedModule files words)
module_judged (Ok (judged.Taken made)) files words definitions defined is = record { definitions = definitions; defined = defined; is_made = is }
module_judged (Ok (judged.Wrong text)) files words definitions defined is = tt
module_judged (Err e) files words definitions defined is = tt

-- so it is of a result
pub module_of_result : (P : WholeDesign → Type 0) (result : Judged WholeDesign) (made : WholeDesign) → IfTaken result P → result ≡ judged.Taken made → P made
module_of_result P result made is e = subst (λ r. IfTaken r P) e is

pub whole_designed : {E : Type 0} (r : Result (Judged DesignSubject) E) (files : List SourceFile) (words : DesignWords) (result : Judged WholeDesign) (made : WholeDesign) → IsJudgedModule files words result → result ≡ judged.Taken made
    → IfOk r (λ j. IfTaken j (IsDesignOfModule made)) → IfOk r (IsJudgedWhole files words)
whole_designed (Ok (judged.Taken subject)) files words result made is e designed = (made, module_of_result (IsModuleOf files words) result made is e, designed)
whole_designed (Ok (judged.Wrong text)) files words result made is e designed = tt
whole_designed (Err f) files words result made is e designed = tt

-- what was judged, of texts of one kind or the other
pub source_judged : (found : SourceTexts) (source : Vec ℕ) (subject : DesignSubject) → found ≡ texts.Profile source → IsSubjectOfSource source.items subject → IsSubjectIn found subject
source_judged found source subject is h = subst (λ t. IsSubjectIn t subject) (sym is) h

pub source_designed : (found : SourceTexts) (source : Vec ℕ) (design : Compiled) → found ≡ texts.Profile source → IsDesignOf source.items design → IsDesignFor found design
source_designed found source design is h = subst (λ t. IsDesignFor t design) (sym is) h

whole_subject : {E : Type 0} (r : Result (Judged DesignSubject) E) (whole : WholeTexts) → IfOk r (IsJudgedWhole whole.files.items whole.words.now) → IfOk r (IsJudgedSubject (texts.Whole whole))
whole_subject (Ok (judged.Taken subject)) whole h = h
whole_subject (Ok (judged.Wrong text)) whole h = tt
whole_subject (Err f) whole h = tt

pub whole_judged : {E : Type 0} (r : Result (Judged DesignSubject) E) (found : SourceTexts) (whole : WholeTexts) → found ≡ texts.Whole whole → IfOk r (IsJudgedWhole whole.files.items whole.words.now) → IfOk r (IsJudgedSubject found)
whole_judged r found whole is h = subst (λ t. IfOk r (IsJudgedSubject t)) (sym is) (whole_subject r whole h)

whole_design_judged : {E : Type 0} (r : Result (Judged Compiled) E) (whole : WholeTexts) → IfOk r (λ j. IfTaken j (IsDesignOfFiles whole.files.items whole.words.now)) → IfOk r (IsJudgedDesign (texts.Whole whole))
whole_design_judged (Ok (judged.Taken design)) whole h = h
whole_design_judged (Ok (judged.Wrong text)) whole h = tt
whole_design_judged (Err f) whole h = tt

pub whole_design_of : {E : Type 0} (r : Result (Judged Compiled) E) (found : SourceTexts) (whole : WholeTexts) → found ≡ texts.Whole whole → IfOk r (λ j. IfTaken j (IsDesignOfFiles whole.files.items whole.words.now))
    → IfOk r (IsJudgedDesign found)
whole_design_of r found whole is h = subst (λ t. IfOk r (IsJudgedDesign t)) (sym is) (whole_design_judged r whole h)

-- the design of a subject
pub subject_design : (files : List SourceFile) (words : DesignWords) (result : Judged DesignSubject) (subject : DesignSubject) → IsJudgedWhole files words result → result ≡ judged.Taken subject
    → IsDesignOfFiles files words subject.design
subject_design files words result subject is e = go (subst (IsJudgedWhole files words) e is)
  where
    go : (made : WholeDesign) × IsModuleOf files words made × IsDesignOfModule made subject → IsDesignOfFiles files words subject.design
    go (made, from_files, design) = (made, from_files, design.design)

-- ---- what came of it

-- a journal was replayed
pub prints_kept : (design : Compiled) (left a b c : Option (List ℕ)) → PrintsOn design left a b → Keeps b c → PrintsOn design left a c
prints_kept design left a b c h k = record { printed = h.printed; are_lines = h.are_lines; grown = appends_kept a b c h.printed h.grown k }

-- a journal that was opened was replayed on the design that is asked for
pub replayed_on : (from : Sources) (file journal : List ℕ) (design : Compiled) (left old new : Option (List ℕ)) → IsDesignIn from file design → PrintsOn design left old new → IsOpened from.held journal left
    → HasReplayed from file journal old new
replayed_on from file journal design left old new is_design prints opened = record { design = design; is_design = is_design; left = left; opened = opened; prints = prints }

pub replay_performed : (from : Sources) (words : List Text) (replay : ReplayRequest) (old new : Option (List ℕ)) (files files' : Option (List MadeFile)) → AsksReplay words replay
    → HasReplayed from replay.file.now replay.journal.now old new → KeepsFiles files files' → IsDone from words old new files files'
replay_performed from words replay old new files files' asks h k = replayed (record {
  begins = asks.begins;
  file = replay.file.now;
  is_file = asks.is_replay.file;
  journal = replay.journal.now;
  is_journal = asks.is_replay.journal;
  replayed = h;
}) k

-- a whole design was refused
pub refused_command : (from : Sources) (words : List Text) (command : Text) (old new : Option (List ℕ)) (files files' : Option (List MadeFile)) (text : _) → bytes_eq command (codes "check") ≡ false → Begins words command
    → IsSome from.words → Keeps old new → KeepsFiles files files' → HasEnded from words old new files files' (ending.Wrong text)
refused_command from words command old new files files' text apart begins whole keeps saves =
    inr (design_refused from words old new files files' (no_check words command apart begins) (whole, keeps, saves))

-- a dump, by what was dumped
dump_is : (found : SourceTexts) (design : Compiled) (where_shown : DumpedScopes) (wave : Wave) (text : List ℕ) → IsDumpedIn found design where_shown → text ≡ dump_text_in where_shown design wave → IsDumpText found design wave text
dump_is (texts.Profile source) design (scopes.One name) wave text (is, named) e =
    (is, (named.0, named.1, e ∙ ap (λ (n : List ℕ). vcd_text n design.names design.widths wave.changes.items wave.end) named.2))
dump_is (texts.Profile source) design (scopes.Several all) wave text is e = absurd is
dump_is (texts.Whole whole) design (scopes.One name) wave text is e = absurd is
dump_is (texts.Whole whole) design (scopes.Several all) wave text (made, from_files, made_is, scopes_are) e =
    (made, from_files, made_is, e ∙ ap (λ (ss : DesignScopes). scoped_text ss.tick (map plain_design_scope ss.scopes.items) design.names design.widths wave.changes.items wave.end) scopes_are)

pub dump_made : (from : Sources) (file : List ℕ) (found : SourceTexts) (result : Judged DumpedDesign) (dumped : DumpedDesign) (journal : List Entry) (text : List ℕ) → AreTextsAt from.held file from.words found
    → IfJudged found result (IsDumpedOf found) → result ≡ judged.Taken dumped → IsDumpTextOf dumped journal text → IsDumpOf from file dumped.design journal text
dump_made from file found result dumped journal text are is e h = record {
  found = found;
  are_texts = are;
  wave = h.wave;
  is_wave = h.is_wave;
  is_text = dump_is found dumped.design dumped.scopes h.wave text (taken (IsDumpedOf found) found result dumped is e) h.text_is;
}

-- what is dumped, of texts of one kind or the other
pub source_dumped : (found : SourceTexts) (source : Vec ℕ) (dumped : DumpedDesign) → found ≡ texts.Profile source → IsDumpedSource source.items dumped.design dumped.scopes → IsDumpedOf found dumped
source_dumped found source dumped is h = subst (λ t. IsDumpedOf t dumped) (sym is) h

whole_dump : {E : Type 0} (r : Result (Judged DumpedDesign) E) (whole : WholeTexts) → IfOk r (λ j. IfTaken j (λ d. IsDumpedWhole whole.files.items whole.words.now d.design d.scopes))
    → IfOk r (λ j. IfJudged (texts.Whole whole) j (IsDumpedOf (texts.Whole whole)))
whole_dump (Ok (judged.Taken dumped)) whole h = h
whole_dump (Ok (judged.Wrong text)) whole h = tt
whole_dump (Err f) whole h = tt

pub whole_dumped : {E : Type 0} (r : Result (Judged DumpedDesign) E) (found : SourceTexts) (whole : WholeTexts) → found ≡ texts.Whole whole
    → IfOk r (λ j. IfTaken j (λ d. IsDumpedWhole whole.files.items whole.words.now d.design d.scopes)) → IfOk r (λ j. IfJudged found j (IsDumpedOf found))
whole_dumped r found whole is h = subst (λ t. IfOk r (λ j. IfJudged t j (IsDumpedOf t))) (sym is) (whole_dump r whole h)

-- the design of a subject, with its scopes
pub subject_dumped : (files : List SourceFile) (words : DesignWords) (result : Judged DesignSubject) (subject : DesignSubject) → IsJudgedWhole files words result → result ≡ judged.Taken subject
    → IsDumpedWhole files words subject.design (scopes.Several subject.scopes)
subject_dumped files words result subject is e = go (subst (IsJudgedWhole files words) e is)
  where
    go : (made : WholeDesign) × IsModuleOf files words made × IsDesignOfModule made subject → IsDumpedWhole files words subject.design (scopes.Several subject.scopes)
    go (made, from_files, design) = (made, from_files, design.design, design.scopes)

-- one scope more
pub scope_more : (all : List DesignScope) (i : ℕ) (s : DesignScope) (old new : List ShownScope) (path : Bor (List ℕ)) → i < length all → s ≡ get_or all i s → map plain_scope old ≡ map plain_design_scope (take i all)
    → path.now ≡ string_bytes s.path → new ≡ old ++ record { path = path; is_instance = s.is_instance } ∷ [] → map plain_scope new ≡ map plain_design_scope (take (i + 1) all)
scope_more all i s old new path h is so_far named put =
    let one : PlainScope = record { path = path.now; is_instance = s.is_instance } in
    let same : one ≡ plain_design_scope s = ap (λ (p : List ℕ). record { path = p; is_instance = s.is_instance }) named in
    let taken : take (i + 1) all ≡ take i all ++ s ∷ [] = take_more all i s h ∙ ap (λ (x : DesignScope). take i all ++ x ∷ []) (sym is) in
    let mapped : map plain_design_scope (take (i + 1) all) ≡ map plain_design_scope (take i all) ++ plain_design_scope s ∷ [] = ap (map plain_design_scope) taken ∙ map-append plain_design_scope (take i all) (s ∷ []) in
    ap (map plain_scope) put ∙ map-append plain_scope old (record { path = path; is_instance = s.is_instance } ∷ []) ∙ ap (λ (xs : List PlainScope). xs ++ one ∷ []) so_far
    ∙ ap (λ (x : PlainScope). map plain_design_scope (take i all) ++ x ∷ []) same ∙ sym mapped

-- a run ended so
pub run_ended : (from : Sources) (file : List ℕ) (seed : Option ℕ) (options : RunOptions) (path old new : Option (List ℕ)) (files files' : Option (List MadeFile)) (told : Option Stop) (e : Ending)
    → e ≡ ending_of told → HasPrintedBy from file seed options path old new files files' told → HasRunTo from file seed options path old new files files' e
run_ended from file seed options path old new files files' None e same h = subst (HasRunTo from file seed options path old new files files') (sym same) h
run_ended from file seed options path old new files files' (Some stop) e same h = subst (HasRunTo from file seed options path old new files files') (sym same) h

-- ---- a flat module

put_on : (path : Option (List ℕ)) (text : List ℕ) (old new : Option (List ℕ)) (a b c : Option (List MadeFile)) → KeepsFiles a b → IsPut path text old new b c → IsPut path text old new a c
put_on None text old new a b c before (shown, same) = (shown, kept_on a b c before same)
put_on (Some path) text old new a b c before (same, saved) = (same, added_on a b c (record { path = path; bytes = text }) before saved)

pub flattened_by : (r : Result Ending CommandFault) (holds : Option (List ℕ → List ℕ)) (words : DesignWords) (path : Option (List ℕ)) (text : List ℕ) (old new : Option (List ℕ)) (a b c : Option (List MadeFile)) → KeepsFiles a b
    → IsFlatTextOf holds words text → IfOk r (λ e. (e ≡ ending.Done) × IsPut path text old new b c) → IfOk r (HasFlattened holds words path old new a c)
flattened_by (Ok e) holds words path text old new a b c before is (done, put) =
    subst (HasFlattened holds words path old new a c) (sym done) (text, is, put_on path text old new a b c before put)
flattened_by (Err f) holds words path text old new a b c before is h = tt

-- as the words ask for it
flattening_ended : (from : Sources) (words : List Text) (asked : DesignWords) (flatten : FlattenRequest) (old new : Option (List ℕ)) (files files' : Option (List MadeFile)) (e : Ending) → from.words ≡ Some asked → AsksFlatten words flatten
    → HasFlattened from.held asked (option_map (λ path. path.now) flatten.out) old new files files' e → HasEnded from words old new files files' e
flattening_ended from words asked flatten old new files files' ending.Done whole asks (text, is, put) = flattened (record {
  begins = asks.begins;
  asked = asked;
  is_asked = whole;
  text = text;
  is_text = is;
  put = subst (λ (path : Option (List ℕ)). IsPut path text old new files files') (sym asks.is_flatten.out) put;
})
flattening_ended from words asked flatten old new files files' (ending.Wrong text) whole asks (same, saves) =
    refused_command from words (codes "flatten") old new files files' text refl asks.begins (subst (λ (o : Option DesignWords). IsSome o) (sym whole) refl) same saves
flattening_ended from words asked flatten old new files files' (ending.Stopped s) whole asks h = absurd h
flattening_ended from words asked flatten old new files files' (ending.Found f) whole asks h = absurd h
flattening_ended from words asked flatten old new files files' (ending.NoRegister name) whole asks h = absurd h
flattening_ended from words asked flatten old new files files' ending.Differ whole asks h = absurd h

pub flatten_performed : (r : Result Ending CommandFault) (from : Sources) (words : List Text) (asked : DesignWords) (flatten : FlattenRequest) (old new : Option (List ℕ)) (files files' : Option (List MadeFile)) → from.words ≡ Some asked
    → AsksFlatten words flatten → IfOk r (HasFlattened from.held asked (option_map (λ path. path.now) flatten.out) old new files files') → IfOk r (HasEnded from words old new files files')
flatten_performed (Ok e) from words asked flatten old new files files' whole asks h = flattening_ended from words asked flatten old new files files' e whole asks h
flatten_performed (Err f) from words asked flatten old new files files' whole asks h = tt

-- what holds at any fault holds at one that is none of output
pub on_any_fault : (P : Type 0) (r : Result Ending CommandFault) → OnErr r P → IfErr r (λ f. status_of f ≢ 1 → P)
on_any_fault P (Ok e) h = tt
on_any_fault P (Err f) h = λ other. h

-- ---- a check

-- texts of the profile are those of the one FILE
pub of_profile : (holds : Option (List ℕ → List ℕ)) (file : List ℕ) (words : Option DesignWords) (found : SourceTexts) (source : Vec ℕ) → AreTextsAt holds file words found → found ≡ texts.Profile source
    → (words ≡ None) × IsHeld holds file source.items
of_profile holds file words found source are is = go words (subst (AreTextsAt holds file words) is are)
  where
    go : (ws : Option DesignWords) → AreTextsAt holds file ws (texts.Profile source) → (ws ≡ None) × IsHeld holds file source.items
    go None h = (refl, h)
    go (Some other) h = absurd h

pub right_source : (from : Sources) (path : List ℕ) (source : Vec ℕ) → from.words ≡ None → IsHeld from.held path source.items → (design : Compiled) × IsDesignOf source.items design → IsRight from path
right_source from path source alone held (design, is) =
    (design, (texts.Profile source, subst (λ (words : Option DesignWords). AreTextsAt from.held path words (texts.Profile source)) (sym alone) held, is))

pub wrong_source : (from : Sources) (path : List ℕ) (source : Vec ℕ) → from.words ≡ None → IsHeld from.held path source.items → HasSourceFault (texts.Profile source) → IsWrong from path
wrong_source from path source alone held is =
    (texts.Profile source, subst (λ (words : Option DesignWords). AreTextsAt from.held path words (texts.Profile source)) (sym alone) held, is)

pub whole_checked : {T E : Type 0} (r : Result (Option T) E) (from : Sources) (file : List ℕ) (found : SourceTexts) (whole : WholeTexts) → AreTextsAt from.held file from.words found → found ≡ texts.Whole whole
    → IfOk r (λ told. told ≡ None → (design : Compiled) × IsDesignOfFiles whole.files.items whole.words.now design) → IfOk r (HasChecked from file)
whole_checked (Ok None) from file found whole are is h =
    let made = h refl in
    (made.0, (texts.Whole whole, subst (AreTextsAt from.held file from.words) is are, made.1))
whole_checked (Ok (Some text)) from file found whole are is h = (texts.Whole whole, subst (AreTextsAt from.held file from.words) is are, tt)
whole_checked (Err f) from file found whole are is h = tt

-- ---- words that make no request

-- one of them is wrong, or lacks what it takes
pub usage_wrong : (words : List Text) (r : NoRequest) (text : _) → r ≡ no_request.Usage text → IsNoRequest words r ⊎ IsNoDesign words r → (AreWrong words ⊎ LacksWord words) ⊎ (AskWhole words ≡ true)
usage_wrong words r text e (inl h) = inl (inl (wrong_usage words r text e h))
usage_wrong words r text e (inr h) = inl (inr (lacking (subst (IsNoDesign words) e h)))
  where
    lacking : IsRefusalText words (string_bytes text) → LacksWord words
    lacking (found, lacks, is) = (found, lacks)

-- numbers that a test tells apart
differ : (k m : ℕ) → (k == m) ≡ false → (m == m) ≡ true → k ≡ m → ⊥
differ k m other own e =
    let f : true ≡ false = sym own ∙ (ap (λ (n : ℕ). n == m) (sym e) ∙ other) in
    cc

-- words that ask for a whole design that can't be asked for so end with no other status
unasked_status : (words : List Text) (r : NoRequest) (n : ℕ) → IsNoDesign words r → IsNoRequestStatus r n → (n ≡ 2) ⊎ (n ≡ 6)
unasked_status words (no_request.Help text) n is status = absurd is
unasked_status words (no_request.Usage text) n is status = inl status
unasked_status words no_request.Memory n is status = inr status

pub unasked_other : (words : List Text) (r : NoRequest) (n k : ℕ) → IsNoDesign words r → IsNoRequestStatus r n → n ≡ k → (k == 2) ≡ false → (k == 6) ≡ false → ⊥
unasked_other words r n k is status e two six = go (unasked_status words r n is status)
  where
    go : (n ≡ 2) ⊎ (n ≡ 6) → ⊥
    go (inl same) = differ k 2 two refl (sym e ∙ same)
    go (inr same) = differ k 6 six refl (sym e ∙ same)

pub unasked_wrong : (words : List Text) (r : NoRequest) (n : ℕ) → IsNoDesign words r → IsNoRequestStatus r n → n ≡ 2 → LacksWord words
unasked_wrong words (no_request.Help text) n is status e = absurd is
unasked_wrong words (no_request.Usage text) n (found, lacks, is) status e = (found, lacks)
unasked_wrong words no_request.Memory n is status e = absurd (clash (sym status ∙ e))
  where
    clash : ◌≡◌ {A = ℕ} 6 2 → ⊥
    clash q = cc

-- ---- the whole command line

-- what is left of a command line begins as it does
pub begins_left : (all words : List Text) (asked : Option DesignWords) (command : Text) → AreLeft all asked words → Begins all command → Begins words command
begins_left all words None command left begins = subst (λ (ws : List Text). Begins ws command) left begins
begins_left [] words (Some asked) command left begins = absurd left
begins_left (program ∷ []) words (Some asked) command left begins = absurd left
begins_left (program ∷ first ∷ own) words (Some asked) command left begins = subst (λ (ws : List Text). Begins ws command) (sym left.rest_is) begins

pub unprinted_left : (all words : List Text) (asked : Option DesignWords) (n : ℕ) → AreLeft all asked words → IsUnprinted all n → IsUnprinted words n
unprinted_left all words asked n left (inl e) = inl e
unprinted_left all words asked n left (inr (inl e)) = inr (inl e)
unprinted_left all words asked n left (inr (inr (e, other))) = inr (inr (e, λ begins. other (begins_all all words asked (codes "explain") left begins)))

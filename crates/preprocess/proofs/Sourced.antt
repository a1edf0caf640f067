-- Files that are read, one more after another.
use Rattle.std.proofs.Common.{◌≡◌, ℕ, ◌+◌, ◌<◌, ◌≤◌, List, [], ◌∷◌, ◌++◌, take, length, get_or, ◌⊎◌, inl, inr, Result, Ok, Err, IsOk, IfOk, IfErr, OnOk, true, false, refl, sym, ap, subst, ◌∙◌, append_assoc, append-nil, arith}
use Rattle.std.proofs.Math.Seq.{take-length}
use Rattle.std.proofs.lemmas.List.{take_more, take_all}
use Rattle.std.proofs.lemmas.List.Elements.{All-nil, All-push, All-append}
use Rattle.lexemes.specs.declared.token.SourceFile.{SourceFile}
use Rattle.preprocess.specs.declared.includes.KnownFile.{KnownFile}
use Rattle.preprocess.specs.declared.includes.Lookup.{Lookup}
use Rattle.preprocess.specs.declared.includes.Lookup.TheVariants as lookups
use Rattle.preprocess.specs.declared.fault.Fault.{Fault}
use Rattle.preprocess.specs.declared.preprocess.Definition.{Definition}
use Rattle.preprocess.specs.declared.preprocess.Preprocessed.{Preprocessed}
use Rattle.preprocess.specs.declared.preprocess.TextRefusal.{TextRefusal}
use Rattle.preprocess.specs.Sources.{IsFileCopy, IsIncluded, FindsKnown, AddsIncluded, MayAdd, AddsSourceFile, AddsCopy, AreFilesRead, none_read, one_read, definition_line, definition_lines, IsCommandLine, AreFilesOf, AreSomeFilesOf}

-- ---- files that are included

pub adds_none : (known : List KnownFile) (old new : List SourceFile) → new ≡ old → AddsIncluded known old new
adds_none known old new is = record { more = []; are_behind = is ∙ sym (append-nil old); are_included = All-nil (IsIncluded known) }

adds_then : (known : List KnownFile) (old mid new : List SourceFile) → AddsIncluded known old mid → AddsIncluded known mid new → AddsIncluded known old new
adds_then known old mid new first second = record {
  more = first.more ++ second.more;
  are_behind = second.are_behind ∙ ap (λ (files : List SourceFile). files ++ second.more) first.are_behind ∙ append_assoc old first.more second.more;
  are_included = All-append (IsIncluded known) first.more second.more first.are_included second.are_included;
}

adds_if : (known : List KnownFile) (file : SourceFile) (old new : List SourceFile) → IsIncluded known file → MayAdd file old new → AddsIncluded known old new
adds_if known file old new included (inl is) = adds_none known old new is
adds_if known file old new included (inr is) =
    record { more = file ∷ []; are_behind = is; are_included = All-push (IsIncluded known) [] file (All-nil (IsIncluded known)) included }

pub adds_same : (known : List KnownFile) (old mid new : List SourceFile) → AddsIncluded known old mid → new ≡ mid → AddsIncluded known old new
adds_same known old mid new adds is = subst (AddsIncluded known old) (sym is) adds

pub adds_next : (known : List KnownFile) (old mid begun new : List SourceFile) → AddsIncluded known old mid → begun ≡ mid → AddsIncluded known begun new → AddsIncluded known old new
adds_next known old mid begun new first is second = adds_then known old begun new (adds_same known old mid begun first is) second

pub included_next : (known : List KnownFile) (file : SourceFile) (old begun new : List SourceFile) → begun ≡ old → IsIncluded known file → MayAdd file begun new → AddsIncluded known old new
included_next known file old begun new is included adds = adds_then known old begun new (adds_none known old begun is) (adds_if known file begun new included adds)

pub ok_by : {T E P : Type 0} (result : Result T E) → P → OnOk result P
ok_by (Ok x) h = h
ok_by (Err x) h = tt

pub found_known : (known : List KnownFile) (told : Lookup) (file : SourceFile) → told ≡ lookups.Found file → FindsKnown known told → IsIncluded known file
found_known known told file is h = subst (FindsKnown known) is h

-- ---- a file and those that it includes

pub file_then : (known : List KnownFile) (file : SourceFile) (old mid new : List SourceFile) → mid ≡ old ++ file ∷ [] → AddsIncluded known mid new → AddsSourceFile known file old new
file_then known file old mid new is adds = subst (λ (files : List SourceFile). AddsIncluded known files new) is adds

pub file_alone : (known : List KnownFile) (file : SourceFile) (old new : List SourceFile) → new ≡ old ++ file ∷ [] → AddsSourceFile known file old new
file_alone known file old new is = adds_none known (old ++ file ∷ []) new is

pub file_perhaps : (known : List KnownFile) (file : SourceFile) (old new : List SourceFile) → MayAdd file old new → (new ≡ old) ⊎ AddsSourceFile known file old new
file_perhaps known file old new (inl is) = inl is
file_perhaps known file old new (inr is) = inr (file_alone known file old new is)

pub as_copy : (known : List KnownFile) (file copy : SourceFile) (old new : List SourceFile) → IsFileCopy file copy → (new ≡ old) ⊎ AddsSourceFile known copy old new → (new ≡ old) ⊎ AddsCopy known file old new
as_copy known file copy old new is (inl same) = inl same
as_copy known file copy old new is (inr adds) = inr (record { copy = copy; is_copy = is; adds_copy = adds })

-- ---- all files

pub first_read : (definitions : List Definition) (files : List SourceFile) (known : List KnownFile) (command : SourceFile) (old new : List SourceFile) → old ≡ [] → IsCommandLine definitions command
    → AddsSourceFile known command old new → AreFilesOf definitions files known 0 new
first_read definitions files known command old new nothing is adds =
    let none : AreFilesRead known [] old = subst (AreFilesRead known []) (sym nothing) none_read in
    let copied : IsFileCopy command command = record { same_name = refl; same_text = refl } in
    record { command = command; is_command = is; are_read = one_read none (record { copy = command; is_copy = copied; adds_copy = adds }) }

pub first_perhaps : (definitions : List Definition) (files : List SourceFile) (known : List KnownFile) (command : SourceFile) (old new : List SourceFile) → old ≡ [] → IsCommandLine definitions command
    → (new ≡ old) ⊎ AddsSourceFile known command old new → AreSomeFilesOf definitions files known new
first_perhaps definitions files known command old new nothing is (inl same) = inl (same ∙ nothing)
first_perhaps definitions files known command old new nothing is (inr adds) = inr (0, first_read definitions files known command old new nothing is adds)

pub next_read : (definitions : List Definition) (files : List SourceFile) (known : List KnownFile) (count : ℕ) (file : SourceFile) (old new : List SourceFile) → count < length files → file ≡ get_or files count file
    → AreFilesOf definitions files known count old → AddsCopy known file old new → AreFilesOf definitions files known (count + 1) new
next_read definitions files known count file old new within is before adds =
    let taken : take (count + 1) files ≡ take count files ++ file ∷ [] = take_more files count file within ∙ ap (λ (f : SourceFile). take count files ++ f ∷ []) (sym is) in
    record {
      command = before.command;
      is_command = before.is_command;
      are_read = subst (λ (front : List SourceFile). AreFilesRead known (before.command ∷ front) new) (sym taken) (one_read before.are_read adds);
    }

pub next_perhaps : (definitions : List Definition) (files : List SourceFile) (known : List KnownFile) (count : ℕ) (file : SourceFile) (old new : List SourceFile) → count < length files → file ≡ get_or files count file
    → AreFilesOf definitions files known count old → (new ≡ old) ⊎ AddsCopy known file old new → AreSomeFilesOf definitions files known new
next_perhaps definitions files known count file old new within is before (inl same) = inr (count, subst (AreFilesOf definitions files known count) (sym same) before)
next_perhaps definitions files known count file old new within is before (inr adds) = inr (count + 1, next_read definitions files known count file old new within is before adds)

pub all_read : (definitions : List Definition) (files : List SourceFile) (known : List KnownFile) (count : ℕ) (found : List SourceFile) → length files ≤ count
    → AreFilesOf definitions files known count found → AreFilesOf definitions files known (length files) found
all_read definitions files known count found all read =
    let whole : take count files ≡ take (length files) files = take_all count files all ∙ sym (take-length files) in
    record {
      command = read.command;
      is_command = read.is_command;
      are_read = subst (λ (front : List SourceFile). AreFilesRead known (read.command ∷ front) found) whole read.are_read;
    }

pub files_found : (read : Result (Unit {0}) Fault) (result : Result Preprocessed TextRefusal) (files : List SourceFile) (P : List SourceFile → Type 0) → OnOk read (P files) → OnOk result (IsOk read)
    → IfOk result (λ found. found.files.items ≡ files) → IfOk result (λ found. P found.files.items)
files_found read (Err refusal) files P h k is = tt
files_found (Ok u) (Ok found) files P h k is = subst P (sym is) h
files_found (Err fault) (Ok found) files P h k is = let e : false ≡ true = k in absurd (cc)

pub files_refused : (result : Result Preprocessed TextRefusal) (files : List SourceFile) (P : List SourceFile → Type 0) → P files → IfErr result (λ refusal. refusal.files.items ≡ files)
    → IfErr result (λ refusal. P refusal.files.items)
files_refused (Ok found) files P h is = tt
files_refused (Err refusal) files P h is = subst P (sym is) h

-- ---- the lines of definitions

pub no_lines : (definitions : List Definition) → length definitions ≡ 0 → definition_lines definitions ≡ []
no_lines [] h = refl
no_lines (it ∷ others) h = absurd (omega arith)

lines_append : (front : List Definition) (it : Definition) → definition_lines (front ++ it ∷ []) ≡ definition_lines front ++ definition_line it
lines_append [] it = append-nil (definition_line it)
lines_append (x ∷ front) it = ap (λ t. definition_line x ++ t) (lines_append front it) ∙ sym (append_assoc (definition_line x) (definition_lines front) (definition_line it))

pub lines_more : (definitions : List Definition) (count : ℕ) (d : Definition) (old new : List ℕ) → count < length definitions → old ≡ definition_lines (take count definitions)
    → new ≡ old ++ definition_line (get_or definitions count d) → new ≡ definition_lines (take (count + 1) definitions)
lines_more definitions count d old new within before more =
    more ∙ ap (λ (t : List ℕ). t ++ definition_line (get_or definitions count d)) before ∙ sym (lines_append (take count definitions) (get_or definitions count d))
    ∙ ap definition_lines (sym (take_more definitions count d within))

pub five_parts : (old a b c d e one two three four five : List ℕ) → one ≡ old ++ a → two ≡ one ++ b → three ≡ two ++ c → four ≡ three ++ d → five ≡ four ++ e → five ≡ old ++ (a ++ (b ++ (c ++ (d ++ e))))
five_parts old a b c d e one two three four five f g h k l =
    l ∙ ap (λ (t : List ℕ). t ++ e) (k ∙ ap (λ (t : List ℕ). t ++ d) (h ∙ ap (λ (t : List ℕ). t ++ c) (g ∙ ap (λ (t : List ℕ). t ++ b) f)))
    ∙ append_assoc (((old ++ a) ++ b) ++ c) d e ∙ append_assoc ((old ++ a) ++ b) c (d ++ e) ∙ append_assoc (old ++ a) b (c ++ (d ++ e)) ∙ append_assoc old a (b ++ (c ++ (d ++ e)))

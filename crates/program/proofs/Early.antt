-- Journals that are saved before a search, among those of all texts that are found.
use Rattle.std.proofs.Common.{◌≡◌, ◌∙◌, ◌++◌, ◌⊎◌, ap, append_assoc, inl, inr, sym, subst, ℕ, List, Option, Some, None, map, length}
use Rattle.std.proofs.lemmas.List.{append-nil, length-map, map-append}
use Rattle.std.specs.Io.KnownBytes.{Appends, Keeps}
use Rattle.sharing.specs.Parts.{Extends}
use Rattle.model.specs.declared.entry.Entry.{Entry}
use Rattle.model.specs.declared.end.End.{End}
use Rattle.explore.specs.declared.Shown.{Shown}
use Rattle.files.specs.declared.fault.FileFault.{FileFault}
use Rattle.files.specs.Saved.{KeepsFiles, MadeFile, SavesFirstWhereAsked, SavesSomeWhereAsked}
use Rattle.files.proofs.Journals.{first_are_some, first_none, first_of_more, some_of_more, some_then_kept}
use Rattle.program.specs.EarlyJournals.{AreSavedEarly}
use Rattle.program.specs.Findings.{journals_of, some_journal}

-- the journal of a text
abbrev pub entries_in : Shown Entry End → List Entry
entries_in s = s.moves.items

-- the journals of texts, and of none that comes to no end, are those of a list of them
pub first_saved : (slice all : List (Shown Entry End)) (given : List (List Entry)) → slice ≡ all → journals_of all None ≡ given → map entries_in slice ≡ given
first_saved slice all given same is = ap (map entries_in) same ∙ (sym (append-nil (map entries_in all)) ∙ is)

-- the journals of texts that grew begin with those of the first
grown_journals : (known texts : List (Shown Entry End)) (endless : Option (List Entry)) → Extends known texts → ((more : List (List Entry)) × (map entries_in known ++ more ≡ journals_of texts endless))
grown_journals known texts endless (added, is) = (
  map entries_in added ++ some_journal endless,
  sym (append_assoc (map entries_in known) (map entries_in added) (some_journal endless))
      ∙ ap (λ (js : List (List Entry)). js ++ some_journal endless) (sym (map-append entries_in known added) ∙ ap (map entries_in) (sym is)),
)

-- journals that were saved before a search are the first of all of its texts
pub early_on : (a b : Option (List MadeFile)) (prefix : Option (List ℕ)) (slice known texts : List (Shown Entry End)) (count : ℕ) (endless : Option (List Entry)) (fault : Option FileFault) → slice ≡ known → count ≡ length slice → Extends known texts
    → AreSavedEarly a b prefix (length slice) (map entries_in slice) fault → AreSavedEarly a b prefix count (journals_of texts endless) fault
early_on a b prefix slice known texts count endless None same counted grown h =
    let (more, is) = grown_journals slice texts endless (subst (λ (ss : List (Shown Entry End)). Extends ss texts) (sym same) grown) in
    let all : length slice ≡ length (map entries_in slice) = sym (length-map slice entries_in) in
    subst (λ (js : List (List Entry)). SavesFirstWhereAsked a b prefix count js) is (first_of_more a b prefix (length slice) count (map entries_in slice) more all (counted ∙ all) h)
early_on a b prefix slice known texts count endless (Some fault) same counted grown h =
    let (more, is) = grown_journals slice texts endless (subst (λ (ss : List (Shown Entry End)). Extends ss texts) (sym same) grown) in
    subst (λ (js : List (List Entry)). SavesSomeWhereAsked a b prefix js) is (some_of_more a b prefix (map entries_in slice) more h)

-- they are a beginning of them
pub early_some : (a b : Option (List MadeFile)) (prefix : Option (List ℕ)) (slice known : List (Shown Entry End)) (fault : Option FileFault) → slice ≡ known → AreSavedEarly a b prefix (length slice) (map entries_in slice) fault
    → SavesSomeWhereAsked a b prefix (journals_of known None)
early_some a b prefix slice known fault same h =
    subst (λ (js : List (List Entry)). SavesSomeWhereAsked a b prefix js) (ap (map entries_in) same ∙ sym (append-nil (map entries_in known))) (some_of fault h)
  where
    some_of : (f : Option FileFault) → AreSavedEarly a b prefix (length slice) (map entries_in slice) f → SavesSomeWhereAsked a b prefix (map entries_in slice)
    some_of None k = first_are_some a b prefix (length slice) (map entries_in slice) k
    some_of (Some f) k = k

-- none was saved before
pub none_early : (a : Option (List MadeFile)) (prefix : Option (List ℕ)) (count : ℕ) (journals : List (List Entry)) (fault : Option FileFault) → count ≡ 0 → fault ≡ None → AreSavedEarly a a prefix count journals fault
none_early a prefix count journals fault counted is =
    subst (λ (o : Option FileFault). AreSavedEarly a a prefix count journals o) (sym is) (subst (λ (n : ℕ). SavesFirstWhereAsked a a prefix n journals) (sym counted) (first_none a prefix journals))

-- no file was made behind those that were saved before, or all were that could be
pub left_early : (out out' : Option (List ℕ)) (a b c : Option (List MadeFile)) (prefix : Option (List ℕ)) (known journals : List (List Entry)) (last : List ℕ) → SavesSomeWhereAsked a b prefix known
    → (Keeps out out' × KeepsFiles b c) ⊎ (Appends out out' last × SavesSomeWhereAsked a c prefix journals)
    → (Keeps out out' × SavesSomeWhereAsked a c prefix known) ⊎ (Appends out out' last × SavesSomeWhereAsked a c prefix journals)
left_early out out' a b c prefix known journals last early (inl (same, kept)) = inl (same, some_then_kept a b c prefix known early kept)
left_early out out' a b c prefix known journals last early (inr told) = inr told

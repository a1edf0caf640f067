-- What lawful orders say of the journals that are shown.
use Rattle.std.proofs.Common.{◌≡◌, ◌⊎◌, ℕ, List, inl, inr, subst}
use Rattle.std.specs.List.{All}
use Rattle.std.proofs.lemmas.List.Elements.{All-weaker}
use Rattle.model.specs.declared.entry.Entry.{Entry}
use Rattle.model.specs.declared.end.Limits.{Limits}
use Rattle.model.specs.declared.end.End.{End}
use Rattle.model.specs.Texts.{IsLawfulText, IsWithinLimits}
use Rattle.design.specs.Compiled.{Compiled, design_of}
use Rattle.explore.specs.declared.Shown.{Shown}
use Rattle.explore.specs.Search.{IsShown}
use Rattle.looseruns.proofs.LooseCovering.{any_of_map}
use Rattle.loosejournals.specs.FoundJournals.{IsJournalOf}
use Rattle.lawful.specs.Journals.{HasLawfulJournal, IsKnownJournal, IsTextAmong, texts_and_ends}

pub are_lawful : (code : Compiled) (limits : Limits) (shown : List (Shown Entry End)) → All (HasLawfulJournal (IsJournalOf code limits)) shown → All (λ (s : Shown Entry End). IsLawfulText (design_of code) limits s.moves.items s.text.items s.end) shown
are_lawful code limits shown journals =
    All-weaker (HasLawfulJournal (IsJournalOf code limits)) (λ (s : Shown Entry End). IsLawfulText (design_of code) limits s.moves.items s.text.items s.end) (λ s journal. journal.lawful) shown journals

pub are_within : (code : Compiled) (limits : Limits) (shown : List (Shown Entry End)) → All (HasLawfulJournal (IsJournalOf code limits)) shown → All (λ (s : Shown Entry End). IsWithinLimits limits s.moves.items) shown
are_within code limits shown journals =
    All-weaker (HasLawfulJournal (IsJournalOf code limits)) (λ (s : Shown Entry End). IsWithinLimits limits s.moves.items) (λ s journal. journal.few) shown journals

-- what is among the texts and the ends that are shown is shown
pub shown_among : {Move End : Type 0} (shown : List (Shown Move End)) (text : List ℕ) (end : End) → IsTextAmong (texts_and_ends shown) text end → IsShown shown text end
shown_among {Move} {End} shown text end there =
    any_of_map (λ (s : Shown Move End). (s.text.items, s.end)) (λ (pair : List ℕ × End). (pair.0 ≡ text) × (pair.1 ≡ end)) shown there

-- a lawful journal with its text and its end, of no more entries than the limits give
abbrev pub IsKnownLawful : Compiled → Limits → Shown Entry End → Type 0
IsKnownLawful code limits s = IsLawfulText (design_of code) limits s.moves.items s.text.items s.end × IsWithinLimits limits s.moves.items

-- a journal that is known of a text and an end is a lawful one of them, where all that are known are
pub known_lawful : (code : Compiled) (limits : Limits) (known : List (Shown Entry End)) (text : List ℕ) (end : End) (journal : List Entry) → All (IsKnownLawful code limits) known → IsKnownJournal known text end journal → IsJournalOf code limits text end journal
known_lawful code limits known text end journal all (k, s, within, is, (same, ends, moves)) =
    let one : IsKnownLawful code limits s = subst (IsKnownLawful code limits) is (all k s within) in
    subst (λ (l : List Entry). IsJournalOf code limits text end l) moves
    (subst (λ (l : List ℕ). IsJournalOf code limits l end s.moves.items) same
    (subst (λ (e : End). IsJournalOf code limits s.text.items e s.moves.items) ends (record { lawful = one.0; few = one.1 })))

-- a lawful journal of a text and an end, or one that is known of them, is a lawful one, where all that are known are
pub either_lawful : (code : Compiled) (limits : Limits) (known : List (Shown Entry End)) (s : Shown Entry End) → All (IsKnownLawful code limits) known
    → IsJournalOf code limits s.text.items s.end s.moves.items ⊎ IsKnownJournal known s.text.items s.end s.moves.items → IsJournalOf code limits s.text.items s.end s.moves.items
either_lawful code limits known s all (inl lawful) = lawful
either_lawful code limits known s all (inr one) = known_lawful code limits known s.text.items s.end s.moves.items all one

-- so it is beside each text that is shown
pub all_lawful : (code : Compiled) (limits : Limits) (known shown : List (Shown Entry End)) → All (IsKnownLawful code limits) known
    → All (HasLawfulJournal (λ text end journal. IsJournalOf code limits text end journal ⊎ IsKnownJournal known text end journal)) shown → All (HasLawfulJournal (IsJournalOf code limits)) shown
all_lawful code limits known shown all =
    All-weaker (HasLawfulJournal (λ text end journal. IsJournalOf code limits text end journal ⊎ IsKnownJournal known text end journal)) (HasLawfulJournal (IsJournalOf code limits)) (λ s is. either_lawful code limits known s all is) shown

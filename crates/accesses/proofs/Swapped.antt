-- Journals that were split, put together again.
use Rattle.std.proofs.Common.{◌≡◌, ℕ, ◌<◌, ◌≤◌, List, [], ◌∷◌, ◌++◌, take, drop, length, take-append-drop, refl, sym, ◌∙◌, ap, arith}
use Rattle.std.specs.Prelude.{slice_index_or}
use Rattle.model.specs.declared.entry.Entry.{Entry}
use Rattle.accesses.specs.ExchangedEntries.{IsParted, IsSwapped, IsHeldJournal}

-- what is left behind the middle begins with two entries, of which the second is known
pub swapped : (exchanged before needed behind : List Entry) (d one : Entry) → IsParted exchanged before needed behind → 2 ≤ length behind
    → slice_index_or behind 1 d ≡ one → IsSwapped exchanged before needed (slice_index_or behind 0 d) one
swapped exchanged before needed [] d one parted two is_one = absurd (omega (arith, two))
swapped exchanged before needed (x ∷ []) d one parted two is_one = absurd (omega (arith, two))
swapped exchanged before needed (x ∷ y ∷ more) d one parted two is_one = record {
  behind = more;
  exchanged_is = parted.exchanged_is ∙ ap (λ (e : Entry). before ++ (needed ++ (x ∷ e ∷ more))) is_one;
  events = parted.events;
}

-- a journal behind whose front one entry is left
ends_with : (journal before last : List Entry) (n : ℕ) (d : Entry) → before ≡ take n journal → last ≡ drop n journal → 1 ≤ length last → length last < 2
    → journal ≡ before ++ slice_index_or last 0 d ∷ []
ends_with journal before [] n d is_front is_last some few = absurd (omega (arith, some))
ends_with journal before (x ∷ y ∷ more) n d is_front is_last some few = absurd (omega (arith, few))
ends_with journal before (x ∷ []) n d is_front is_last some few =
    sym (ap (λ (l : List Entry). l ++ x ∷ []) is_front ∙ (ap (λ (l : List Entry). take n journal ++ l) is_last ∙ take-append-drop n journal))

-- the middle of the second journal begins with an entry, and what is left behind it with the last one of the first journal
pub held : (journal exchanged before last middle behind : List Entry) (n : ℕ) (d : Entry) → before ≡ take n journal → last ≡ drop n journal → 1 ≤ length last
    → length last < 2 → IsParted exchanged before middle behind → 1 ≤ length middle → 1 ≤ length behind → slice_index_or behind 0 d ≡ slice_index_or last 0 d
    → IsHeldJournal journal exchanged before middle (slice_index_or last 0 d) (slice_index_or middle 0 d)
held journal exchanged before last [] behind n d is_front is_last some few parted any left same = absurd (omega (arith, any))
held journal exchanged before last (x ∷ xs) [] n d is_front is_last some few parted any left same = absurd (omega (arith, left))
held journal exchanged before last (x ∷ xs) (y ∷ ys) n d is_front is_last some few parted any left same = record {
  between = xs;
  behind = ys;
  journal_is = ends_with journal before last n d is_front is_last some few;
  segment_is = refl;
  exchanged_is = parted.exchanged_is ∙ ap (λ (e : Entry). before ++ ((x ∷ xs) ++ (e ∷ ys))) same;
  events = parted.events;
}

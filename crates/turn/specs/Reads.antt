-- What a turn read: registers, each with what was seen of it, in the order of their first use.
use Rattle.std.specs.Prelude.{◌≡◌, ℕ, ◌<◌, List, [], ◌∷◌, map, Result, OnOk}
use Rattle.std.specs.List.{All}
use Rattle.model.specs.Expressions.{Store, value_of}
use Rattle.turn.specs.declared.memory.Seen.{Seen}

-- the registers that were read
abbrev pub registers : List (ℕ × Seen) → List ℕ
registers reads = map (λ r. r.0) reads

-- each register that was read is declared, where there are this many
abbrev pub AreDeclared : ℕ → List (ℕ × Seen) → Type 0
AreDeclared n reads = All (λ r. r.0 < n) reads

-- each recorded value is the store's value of its register
abbrev pub Agrees : List (ℕ × Seen) → Store → Type 0
Agrees [] store = Unit {0}
Agrees (r ∷ reads) store = (value_of store r.0 ≡ r.1.value) × Agrees reads store

-- each recorded pair is one that a reader gave
abbrev pub GaveAll : (ℕ → Seen → Type 0) → List (ℕ × Seen) → Type 0
GaveAll gave [] = Unit {0}
GaveAll gave (r ∷ reads) = gave r.0 r.1 × GaveAll gave reads

-- each pair that was given before is also given after
abbrev pub KeepsGiven : (ℕ → Seen → Type 0) → (ℕ → Seen → Type 0) → Type 0
KeepsGiven before after = (r : ℕ) (s : Seen) → before r s → after r s

-- What a call leaves that may read on, with this result. The reader gives all that it gave before, and what no read changes stays.
-- After an `Ok`, where all reads before were given, so are all that are recorded now.
pub record ReadsOn {S L A E : Type 0} (given : S → ℕ → Seen → Type 0) (stays : S → L) (result : Result A E) (old : S) (before : List (ℕ × Seen)) (new : S) (after : List (ℕ × Seen)) : Type 0 where
  pub gave : OnOk result (GaveAll (given old) before → GaveAll (given new) after)
  pub keeps : KeepsGiven (given old) (given new)
  pub lasting : stays new ≡ stays old

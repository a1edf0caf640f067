-- Waves: the values of the registers of a run over time.
use Rattle.std.specs.Prelude.{◌≡◌, ◌⊎◌, ℕ, ◌+◌, ◌<◌, ◌≤◌, false, nat_le, List, [], ◌∷◌, map, length, filter, take, Option, Some, None, slice_get, slice_set}
use Rattle.logic4.specs.Vector.{unknown}
use Rattle.logic4.specs.Operators.{same_vector}
use Rattle.model.specs.declared.entry.Entry.{Entry}
use Rattle.model.specs.declared.entry.Entry.TheVariants.{Advance}
use Rattle.model.specs.Design.{Design}
use Rattle.model.specs.Expressions.{Store, value_of}
use Rattle.model.specs.Runs.{Effect, refusal, run}
use Rattle.waves.specs.declared.wave.ValueChange.{ValueChange}
use Rattle.waves.specs.declared.wave.Wave.{Wave}

-- the values of the registers after changes, in order
abbrev pub changed : Store → List ValueChange → Store
changed store [] = store
changed store (c ∷ cs) = changed (slice_set store c.register c.value) cs

-- every register all x (4.2.2)
abbrev pub unknown_store : Design → Store
unknown_store design = map unknown design.widths

-- the changes up to and with a time
abbrev pub until : ℕ → List ValueChange → List ValueChange
until time changes = filter (λ c. nat_le c.time time) changes

-- The values that are read back at a time: of each register the value of the last change up to and with that time, and all x where
-- there is none.
abbrev pub values_at : Design → List ValueChange → ℕ → Store
values_at design changes time = changed (unknown_store design) (until time changes)

-- a time ends before this entry: it is an advance, or there is none
abbrev pub EndsTime : Option Entry → Type 0
EndsTime None = Unit {0}
EndsTime (Some (Advance time)) = Unit {0}
EndsTime (Some _) = ⊥

-- With so many entries of a journal a time ends, and this has come of them.
pub record EndsTimeAt (design : Design) (journal : List Entry) (count : ℕ) (e : Effect) : Type 0 where
  pub within : count ≤ length journal
  pub ends : EndsTime (slice_get journal count)
  pub is_run : run design (take count journal) ≡ Some e

-- a time that ends in a journal
abbrev pub IsTimeOf : Design → List Entry → ℕ → Type 0
IsTimeOf design journal time = (count : ℕ) × (e : Effect) × EndsTimeAt design journal count e × (e.state.time ≡ time)

-- the changes are at times that end in a journal
abbrev pub AreAtTimesOf : Design → List Entry → List ValueChange → Type 0
AreAtTimesOf design journal [] = Unit {0}
AreAtTimesOf design journal (c ∷ cs) = IsTimeOf design journal c.time × AreAtTimesOf design journal cs

-- a time and a register are not behind others: the time is earlier, or the same and the register not greater
abbrev pub IsNotBehind : ℕ → ℕ → ℕ → ℕ → Type 0
IsNotBehind time r time' r' = (time < time') ⊎ ((time ≡ time') × (r ≤ r'))

-- Changes in the order of their times, and those of one time in the order of their registers, each at most once. They stand from
-- one time and register on, and before another.
abbrev pub AreChangesInOrder : ℕ → ℕ → List ValueChange → ℕ → ℕ → Type 0
AreChangesInOrder time r [] time' r' = IsNotBehind time r time' r'
AreChangesInOrder time r (c ∷ cs) time' r' = IsNotBehind time r c.time c.register × AreChangesInOrder c.time (c.register + 1) cs time' r'

-- Each change gives a register another value of the same width than it had before.
abbrev pub AreChanges : Store → List ValueChange → Type 0
AreChanges store [] = Unit {0}
AreChanges store (c ∷ cs) =
    (c.register < length store) × (length c.value ≡ length (value_of store c.register))
    × (same_vector (value_of store c.register) c.value ≡ false) × AreChanges (slice_set store c.register c.value) cs

-- This is the wave of a journal: it is lawful and comes to the time of the end; at each time that ends in it, the values that are read
-- back are those that the registers have then; and nothing else is told, in order.
pub record IsWaveOf (design : Design) (journal : List Entry) (wave : Wave) : Type 0 where
  pub end : (e : Effect) × (run design journal ≡ Some e) × (e.state.time ≡ wave.end)
  pub reads : (count : ℕ) (e : Effect) → EndsTimeAt design journal count e
      → values_at design wave.changes.items e.state.time ≡ e.state.store
  pub times : AreAtTimesOf design journal wave.changes.items
  pub order : AreChangesInOrder 0 0 wave.changes.items wave.end (length design.widths)
  pub changes : AreChanges (unknown_store design) wave.changes.items

-- Where a lawful journal goes on with an advance, that goes to a later time.
abbrev pub AdvancesRise : Type 0
AdvancesRise =
    (design : Design) (journal : List Entry) (e : Effect) (time : ℕ) → run design journal ≡ Some e
    → refusal e.state (Advance time) ≡ None → e.state.time < time

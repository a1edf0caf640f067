-- Which registers differ in two runs when a time passes.
use Rattle.std.specs.Prelude.{◌≡◌, ◌⊎◌, ◌↔◌, ℕ, suc, ◌+◌, ◌≤◌, Bool, true, false, nat_le, nat_lt, if◌then◌else◌, List, [], ◌∷◌, take, Option, Some, None}
use Rattle.std.specs.List.{Contains}
use Rattle.std.specs.List.Sorted.{IsStrictlyIncreasing}
use Rattle.logic4.specs.Operators.{same_vector}
use Rattle.model.specs.declared.entry.Entry.{Entry}
use Rattle.model.specs.declared.entry.Entry.TheVariants.{Turn, Update, ActivateInactive, ActivateNba, ActivateMonitor, Advance}
use Rattle.model.specs.Design.{Design}
use Rattle.model.specs.Expressions.{Store}
use Rattle.model.specs.Runs.{Effect, run}
use Rattle.differences.specs.declared.value_difference.ValueDifference.{ValueDifference}
use Rattle.differences.specs.declared.value_difference.ValueGiver.{ValueGiver}
use Rattle.differences.specs.declared.value_difference.GivenValue.{GivenValue}
use Rattle.differences.specs.Givers.{last_giver}

-- whether an entry advances past a time
abbrev pub goes_past : ℕ → Entry → Bool
goes_past time (Turn number) = false
goes_past time (Update number) = false
goes_past time ActivateInactive = false
goes_past time ActivateNba = false
goes_past time ActivateMonitor = false
goes_past time (Advance next) = nat_lt time next

-- how many entries of a journal come before a time passes: those before the first advance past it
abbrev pub count_until : ℕ → List Entry → ℕ
count_until time [] = 0
count_until time (e ∷ es) = if goes_past time e then 0 else suc (count_until time es)

-- the values of the registers that some entries leave
abbrev pub store_left : Option Effect → Store
store_left (Some e) = e.state.store
store_left None = []

-- the values of the registers in the run of a journal when a time passes
abbrev pub values_when : Design → List Entry → ℕ → Store
values_when design journal time = store_left (run design (take (count_until time journal) journal))

-- the values of the registers from one number on, each with the entry that gave it
abbrev pub given_from : (ℕ → Option ValueGiver) → ℕ → Store → List GivenValue
given_from givers r [] = []
given_from givers r (v ∷ vs) = record { value = v; by = givers r } ∷ given_from givers (r + 1) vs

-- the values of the registers in the run of a journal when a time passes, each with the entry that gave it
abbrev pub given_when : Design → List Entry → ℕ → List GivenValue
given_when design journal time = given_from (λ r. last_giver design journal r (count_until time journal)) 0 (values_when design journal time)

-- values beside the entries that gave them
abbrev pub given_values : Store → List (Option ValueGiver) → List GivenValue
given_values [] gs = []
given_values (v ∷ vs) [] = []
given_values (v ∷ vs) (g ∷ gs) = record { value = v; by = g } ∷ given_values vs gs

-- a time that ends in a journal: 0, or one that it advances to
abbrev pub IsTimeIn : List Entry → ℕ → Type 0
IsTimeIn journal time = (time ≡ 0) ⊎ Contains journal (Advance time)

-- a time at which two journals are compared: it ends in one of them, and isn't past the last one
abbrev pub IsComparedTime : List Entry → List Entry → ℕ → ℕ → Type 0
IsComparedTime first second last time = (IsTimeIn first time ⊎ IsTimeIn second time) × (time ≤ last)

-- these are all such times, in order
pub record AreComparedTimes (first second : List Entry) (last : ℕ) (times : List ℕ) : Type 0 where
  pub rise : IsStrictlyIncreasing times
  pub all : (time : ℕ) → Contains times time ↔ IsComparedTime first second last time

-- a time, where it isn't past the last one
abbrev pub no_later_than : ℕ → ℕ → List ℕ
no_later_than last time = if nat_le time last then time ∷ [] else []

-- the time that an entry advances to, where that isn't past the last one
abbrev pub advance_to : ℕ → Entry → List ℕ
advance_to last (Turn number) = []
advance_to last (Update number) = []
advance_to last ActivateInactive = []
advance_to last ActivateNba = []
advance_to last ActivateMonitor = []
advance_to last (Advance time) = no_later_than last time

-- a register before others, unless its two values are the same
abbrev pub with_difference : Bool → ValueDifference → List ValueDifference → List ValueDifference
with_difference true d ds = ds
with_difference false d ds = d ∷ ds

-- the registers from one number on whose values differ at a time
abbrev pub differing : ℕ → ℕ → List GivenValue → List GivenValue → List ValueDifference
differing time r (one ∷ firsts) (other ∷ seconds) =
    with_difference (same_vector one.value other.value) (record { time = time; register = r; first = one; second = other }) (differing time (r + 1) firsts seconds)
differing time r _ _ = []

-- the registers whose values in the runs of two journals differ when a time passes
abbrev pub rows_at : Design → List Entry → List Entry → ℕ → List ValueDifference
rows_at design first second time = differing time 0 (given_when design first time) (given_when design second time)

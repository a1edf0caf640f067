-- One register: the list of its values, the words of its cell, and what each pass knows.
use Rattle.std.specs.Prelude.{◌≡◌, ℕ, ◌+◌, List, [], ◌∷◌, length, Some, slice_get, true, false}
use mathlib.Core.Option.{some}
use mathlib.Core.List.{IsPrefix}
use lib.ListN.{get_elem?}
use Rattle.logic4.specs.Vector.{Vector}
use Rattle.regcells.specs.declared.rule.View.{View}
use Rattle.regcells.specs.CellWords.{version_in, value_in, HoldValue}
use Rattle.regcells.specs.Values.{register_width, values_after}

-- the pass that knows all values
abbrev pub holder : List Vector → View
holder all = record { holds = true; seen = all; shown = [] }

-- a pass that has seen a beginning of them
abbrev pub reader : List Vector → View
reader seen = record { holds = false; seen = seen; shown = [] }

-- a pass that was told what another has seen
abbrev pub informed : View → View → View
informed v w = record { holds = v.holds; seen = v.seen; shown = w.seen }

-- the words hold the last value and its version, which is its place in the list
pub record IsEnd (values : List Vector) (words : List ℕ) : Type 0 where
  pub last : slice_get values (version_in words) ≡ Some (value_in (register_width values) words)
  pub version : length values ≡ version_in words + 1
  pub hold : HoldValue (register_width values) words

-- before its first value a cell's words say nothing
abbrev pub IsEndOnceBegun : List Vector → List ℕ → Type 0
IsEndOnceBegun [] words = Unit {0}
IsEndOnceBegun (x ∷ xs) words = IsEnd (x ∷ xs) words

-- the holder's pass knows the whole list, and each pass a beginning of it
abbrev pub FitsRegisterPass : ℕ → List Vector → ℕ → View → Type 0
FitsRegisterPass holding values by v = (v.holds ≡ true → (by ≡ holding) × (v.seen ≡ values)) × IsPrefix v.seen values × IsPrefix v.shown values

-- there is one list of values
abbrev pub CellInvariant : List ℕ → List View → Type 0
CellInvariant words views =
    (holding : ℕ) × (values : List Vector) × IsEndOnceBegun values words × ((by : ℕ) (v : View) → get_elem? views by ≡ some v → FitsRegisterPass holding values by v)

-- a seat has seen the list as it is
abbrev pub HasLoadedRegister : View → List ℕ → List ℕ → View → Type 0
HasLoadedRegister v before after w = (w ≡ reader w.seen) × IsPrefix v.seen w.seen × IsPrefix v.shown w.seen × IsEnd w.seen before

-- the holder has compared the words with its list, which begins with what it was told of
abbrev pub HasCheckedRegister : View → List ℕ → List ℕ → View → Type 0
HasCheckedRegister v before after w = (w ≡ holder v.seen) × IsPrefix v.shown v.seen × IsEnd v.seen before

-- the holder has given the register these values, one after another
abbrev pub Stored : List Vector → View → List ℕ → List ℕ → View → Type 0
Stored given v before after w = w ≡ holder (values_after v.seen given)

-- The declared registers as the program holds them: their names, and their ranges.
use Rattle.std.specs.Prelude.{◌≡◌, ℕ, ◌≤◌, true, List, [], ◌∷◌, map, flat_map, Option, None, length, slice_index_or}
use Rattle.model.specs.declared.limits.ModuleLimits.TheVariants.{Whole}
use Rattle.model.specs.ModuleLimits.{most_registers}
use Rattle.model.specs.Syntax.{Text, Declaration}
use Rattle.model.specs.Elaboration.{Declared, is_range}

-- each name with the range at its place
abbrev pub with_ranges : List Text → List (Option (ℕ × ℕ)) → List Declared
with_ranges [] ranges = []
with_ranges (name ∷ names) [] = []
with_ranges (name ∷ names) (range ∷ ranges) = (name, range) ∷ with_ranges names ranges

-- as many names as ranges, not too many, and each range is allowed
pub record AreRegisters (names : List Text) (ranges : List (Option (ℕ × ℕ))) : Type 0 where
  pub paired : length names ≡ length ranges
  pub few : length ranges ≤ most_registers Whole
  pub ranged : (k : ℕ) → is_range (slice_index_or ranges k None) ≡ true

-- names that share a range
abbrev pub of_range : Option (ℕ × ℕ) → List Text → List Declared
of_range range names = map (λ name. (name, range)) names

-- the registers of declarations, in their order
abbrev pub all_declared : List Declaration → List Declared
all_declared ds = flat_map (λ d. of_range d.range d.names) ds

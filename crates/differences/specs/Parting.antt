-- Where two journals part.
use Rattle.std.specs.Prelude.{◌≡◌, ◌≢◌, ◌⊎◌, ℕ, ◌≤◌, List, length, take, slice_get}
use Rattle.model.specs.declared.entry.Entry.{Entry}

-- Two journals part behind so many entries: these are the same in both, and what stands behind them in one isn't what stands there
-- in the other, unless the two are the same.
pub record PartBehind (first second : List Entry) (count : ℕ) : Type 0 where
  pub in_first : count ≤ length first
  pub in_second : count ≤ length second
  pub same : take count first ≡ take count second
  pub apart : (slice_get first count ≢ slice_get second count) ⊎ (first ≡ second)

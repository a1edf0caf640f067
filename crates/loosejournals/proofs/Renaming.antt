-- Classes of which one is given another name.
use Rattle.std.proofs.Common.{◌≡◌, ℕ, ◌<◌, ◌≤◌, List}
use Rattle.std.specs.Prelude.{slice_index}
use Rattle.loosejournals.specs.Classes.{renamed_class}

-- those before a place have their new names, and the others their old ones
pub record AreRenamedTo (from to : ℕ) (old new : List ℕ) (at : ℕ) : Type 0 where
  pub done : (r : ℕ) → r < at → slice_index new r ≡ renamed_class from to (slice_index old r)
  pub left : (r : ℕ) → at ≤ r → slice_index new r ≡ slice_index old r

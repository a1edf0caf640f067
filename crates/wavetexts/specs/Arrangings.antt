-- An observed text whose lines are put in order, one after another.
use Rattle.std.specs.Prelude.{◌≡◌, ℕ, List, ◌∷◌, ◌++◌}
use Rattle.wavetexts.specs.AtTimes.{arranged}
use Rattle.wavetexts.specs.declared.arranging.Arranging.{Arranging}

-- one line more was taken: whatever lines follow, they are put in order to the same text
abbrev pub IsArrangedOn : ℕ → List ℕ → Arranging → Arranging → Type 0
IsArrangedOn registers line old new =
    (lines : List (List ℕ)) → new.done.items ++ arranged registers new.left new.held.items lines ≡ old.done.items ++ arranged registers old.left old.held.items (line ∷ lines)

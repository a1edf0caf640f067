-- What was recorded of a turn, against all values that the registers had.
use Rattle.std.proofs.Common.{◌≡◌, ℕ, suc, ◌+◌, ◌<◌, List, [], ◌∷◌, map, length, Some, refl, sym, ◌∙◌}
use Rattle.std.specs.Prelude.{slice_get}
use Rattle.std.proofs.lemmas.List.Elements.{All-head, All-tail}
use mathlib.Core.List.{IsPrefix}
use Rattle.logic4.specs.Vector.{Vector}
use Rattle.design.specs.Compiled.{Compiled}
use Rattle.turn.specs.declared.memory.Seen.{Seen}
use Rattle.turn.specs.Reads.{Agrees, AreDeclared, GaveAll}
use Rattle.regcells.specs.Values.{last_value}
use Rattle.regcells.proofs.Lasts.{last_at}
use Rattle.regcells.specs.Meetings.{fresh_of}
use Rattle.runstate.specs.Histories.{StandsInHistory, IsRead}
use Rattle.runstate.proofs.Beginnings.{prefix_get}
use Rattle.runstate.proofs.Histories.{value_of_last}

-- Versions alone are compared: what was recorded stands in a beginning of the register's list, so where its version is the last,
-- its value is.
pub agrees : (code : Compiled) (fresh all : List (List Vector)) (reads : List (ℕ × Seen)) → GaveAll (IsRead code fresh) reads
    → AreDeclared (length code.widths) reads
    → ((k : ℕ) (d : ℕ × Seen) → slice_get reads k ≡ Some d → IsPrefix (fresh_of fresh d.0) (fresh_of all d.0))
    → ((k : ℕ) (d : ℕ × Seen) → slice_get reads k ≡ Some d → length (fresh_of all d.0) ≡ d.1.version + 1)
    → Agrees reads (map last_value all)
agrees code fresh all [] gave declared begins current = tt
agrees code fresh all (d ∷ ds) gave declared begins current =
    let here : StandsInHistory (fresh_of fresh d.0) d.1 = gave.0 (All-head (λ (x : ℕ × Seen). x.0 < length code.widths) d ds declared) in
    let there : StandsInHistory (fresh_of all d.0) d.1 = prefix_get (fresh_of fresh d.0) (fresh_of all d.0) d.1.version d.1.value (begins 0 d refl) here in (
      value_of_last all d.0 ∙ sym (last_at (fresh_of all d.0) d.1.version d.1.value there (current 0 d refl)),
      agrees code fresh all ds gave.1 (All-tail (λ (x : ℕ × Seen). x.0 < length code.widths) d ds declared)
          (λ k e at. begins (suc k) e at) (λ k e at. current (suc k) e at),
    )

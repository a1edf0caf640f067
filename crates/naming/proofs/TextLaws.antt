-- Texts that differ only in the order of lines at one time.
use Rattle.std.proofs.Common.{◌≡◌, ℕ, ◌<◌, Bool, List, length, Result, Ok, Err}
use Rattle.std.specs.Prelude.{IfOk, IsTrue}
use Rattle.std.specs.List.{All}
use Rattle.model.specs.declared.entry.Entry.{Entry}
use Rattle.model.specs.declared.end.End.{End}
use Rattle.design.specs.Compiled.{Compiled}
use Rattle.explore.specs.declared.Shown.{Shown}
use Rattle.naming.specs.TextOrders.{DifferInOrder, PrintsAtTimes}

-- several texts with one end, in whose journals the same is printed at each time, differ only so
pub differs_if_alike : {E : Type 0} (r : Result Bool E) (code : Compiled) (shown : List (Shown Entry End)) (lines : List ℕ) (end : End) → 1 < length shown
    → IfOk r (λ same. IsTrue same → All (λ s. (s.end ≡ end) × PrintsAtTimes code s.moves.items lines) shown) → IfOk r (λ order. IsTrue order → DifferInOrder code shown)
differs_if_alike (Ok same) code shown lines end several alike = λ holds. record { lines = lines; end = end; several = several; all = alike holds }
differs_if_alike (Err e) code shown lines end several alike = tt

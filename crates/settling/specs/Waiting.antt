-- Processes that wait for none of some registers.
use Rattle.std.specs.Prelude.{◌≡◌, ℕ, ◌<◌, ◌==◌, true, false, List, length, slice_index_or}
use Rattle.std.specs.List.{list_any}
use Rattle.model.specs.Design.{Trigger}
use Rattle.model.specs.Turns.{contains}
use Rattle.regions.specs.declared.queue.Continuation.{Continuation}
use Rattle.regions.specs.ProcessWaking.{triggers_at}

-- these triggers are of none of these registers
abbrev pub WaitsForNone : List Trigger → List ℕ → Type 0
WaitsForNone triggers registers = (r : ℕ) → contains registers r ≡ true → list_any (λ (t : Trigger). t.1 == r) triggers ≡ false

-- each process but the members waits for none of these registers
abbrev pub OthersSleep : List (List Trigger) → List Continuation → List ℕ → List ℕ → Type 0
OthersSleep controls processes members registers =
    (q : ℕ) (d : Continuation) → q < length processes → contains members q ≡ false → WaitsForNone (triggers_at controls (slice_index_or processes q d).waits) registers

-- Seats: what a worker's seat has seen of its gate.
use Rattle.std.specs.Prelude.{◌≡◌, ℕ, List, [], ◌∷◌, map, Option, None}
use mathlib.Core.List.{IsPrefix}
use Rattle.logic4.specs.Vector.{Vector, unknown}
use Rattle.model.specs.declared.end.Why.{Why}
use Rattle.design.specs.Compiled.{Compiled}
use Rattle.runstate.specs.Ledger.{Ledger}
use Rattle.regcells.specs.Meetings.{HaveGrown}

-- What contracts see of a seat: its worker; the beginning of the gate's ledger that it has seen; the positions in the
-- journal of the entries that it appended, rising; the end that it stored, if it stored one; and of each register the
-- beginning of its history that it has seen.
pub record SeatView : Type 0 where
  pub worker : ℕ
  pub seen : Ledger
  pub positions : List ℕ
  pub stored : Option Why
  pub fresh : List (List Vector)

-- of each register all x alone
abbrev pub first_values : Compiled → List (List Vector)
first_values code = map (λ w. unknown w ∷ []) code.widths

-- the seat of a worker that has seen nothing of the ledger, and of each register that it begins all x
abbrev pub new_seat : Compiled → ℕ → SeatView
new_seat code worker = record { worker = worker; seen = []; positions = []; stored = None; fresh = first_values code }

-- a seat that read registers: it may only have seen more of them
pub record SeatReadsOn (old new : SeatView) : Type 0 where
  pub worker : new.worker ≡ old.worker
  pub seen : new.seen ≡ old.seen
  pub positions : new.positions ≡ old.positions
  pub stored : new.stored ≡ old.stored
  pub rises : HaveGrown old.fresh new.fresh

-- a call leaves a seat its worker's, and what it has seen is all that it had seen, with further items and values
pub record Follows (old new : SeatView) : Type 0 where
  pub worker : new.worker ≡ old.worker
  pub later : IsPrefix old.seen new.seen
  pub rises : HaveGrown old.fresh new.fresh

-- a call that neither appended nor stored anything in the seat's name
pub record LooksOn (old new : SeatView) : Type 0 where
  pub follows : Follows old new
  pub positions : new.positions ≡ old.positions
  pub stored : new.stored ≡ old.stored

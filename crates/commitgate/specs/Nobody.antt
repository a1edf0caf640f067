-- The seat of nobody.
use Rattle.std.specs.Prelude.{[], None}
use Rattle.commitgate.specs.Seats.{SeatView}

-- a seat that belongs to no gate
abbrev pub nameless_seat : SeatView
nameless_seat = record { worker = 0; seen = []; positions = []; stored = None; fresh = [] }

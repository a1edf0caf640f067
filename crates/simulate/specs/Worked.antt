-- What the workers of a run have at its end.
use Rattle.std.specs.Prelude.{◌≡◌, ℕ, List, map}
use Rattle.std.specs.Global.{Vec}
use Rattle.commitgate.specs.Named.{Named}
use Rattle.commitgate.specs.Seats.{SeatView}
use Rattle.commitgate.specs.Tickets.{TicketView}
use Rattle.eventpool.specs.Ends.{Owning, Stealing}
use Rattle.workers.specs.declared.worker.Worker.{Worker}
use Rattle.workers.specs.WorkerInvariant.{AreDone}

-- these are the seats, the ends of deques and the numbers of evaluations of workers that worked to the end
pub record HaveWorked {A : Type 0} (n : Named) (first : List (Worker A)) (seats : List SeatView) (owners : List (Owning TicketView)) (rows : List (Vec (Stealing TicketView))) (evaluations : List ℕ) : Type 0 where
  pub left : List (Worker A)
  pub done : AreDone n first left
  pub seats_are : seats ≡ map (λ w. w.seat) left
  pub owners_are : owners ≡ map (λ w. w.owner) left
  pub rows_are : rows ≡ map (λ w. w.row) left
  pub evaluations_are : evaluations ≡ map (λ w. w.evaluations) left

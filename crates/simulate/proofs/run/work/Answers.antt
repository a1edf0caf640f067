-- The first worker and the others are all of them, and each is taken apart.
use Rattle.std.proofs.Common.{◌≡◌, ℕ, List, map, Ok, Err, subst}
use Rattle.std.specs.Prelude.{Result, IfOk}
use Rattle.std.specs.Global.{Vec}
use Rattle.commitgate.specs.Named.{Named}
use Rattle.commitgate.specs.Seats.{SeatView}
use Rattle.commitgate.specs.Tickets.{TicketView}
use Rattle.eventpool.specs.Ends.{Owning, Stealing}
use Rattle.workers.specs.declared.worker.Worker.{Worker}
use Rattle.workers.specs.WorkerInvariant.{AreDone}
use Rattle.simulate.specs.Worked.{HaveWorked}
use Rattle.simulate.proofs.Outcomes.{first_and_rest}
use Rattle.simulate.proofs.run.work.Goals as goal

parted : {A S E : Type 0} (n : Named) (first left : List (Worker A)) (seats : S → List SeatView) (owners : S → List (Owning TicketView)) (rows : S → List (Vec (Stealing TicketView))) (evaluations : S → List ℕ) (r : Result S E)
    → AreDone n first left
    → IfOk r (λ a. seats a ≡ map (λ w. w.seat) left) → IfOk r (λ a. owners a ≡ map (λ w. w.owner) left) → IfOk r (λ a. rows a ≡ map (λ w. w.row) left) → IfOk r (λ a. evaluations a ≡ map (λ w. w.evaluations) left)
    → IfOk r (λ a. HaveWorked n first (seats a) (owners a) (rows a) (evaluations a))
parted n first left seats owners rows evaluations (Ok a) done s o w e = record { left = left; done = done; seats_are = s; owners_are = o; rows_are = w; evaluations_are = e }
parted n first left seats owners rows evaluations (Err x) done s o w e = s

pub returns : goal.returns
returns g c =
    let n = g.K.Naming.named in
    let whole = first_and_rest c.args.workers.items c.remove-own.result c.remove-own.new.self.items c.requires.workers c.remove-own.ensures.value c.remove-own.ensures.by_index.2 in
    let kept = c.filled.ensures in
    parted n c.args.workers.items c.in_ok-left.left.items (λ a. a.seats.items) (λ a. a.owners.items) (λ a. a.rows.items) (λ a. a.evaluations.items) c.filled.result
    (subst (λ (l : List (Worker _)). AreDone n l c.in_ok-left.left.items) whole c.in_ok-left.ensures)
    kept.seats kept.owners kept.rows kept.evaluations

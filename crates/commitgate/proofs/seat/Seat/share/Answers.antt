-- What a seat says of its own items is so in what it has seen.
use Rattle.std.proofs.Common.{◌≡◌, ◌∙◌, ap, subst}
use Rattle.crossbeam_utils.specs.Seq.{cell_view}
use Rattle.runstate.specs.declared.mark.MarkView.{MarkView}
use Rattle.runstate.specs.Ledger.{positions_of, stored_of}
use Rattle.commitgate.specs.Seats.{SeatView}
use Rattle.commitgate.proofs.seat.Seat.share.Goals as goal

pub returns-clause-positions : goal.returns-clause-positions
returns-clause-positions g c =
    let view = cell_view c.self.inside.pass in
    let number : view.number ≡ c.self.inside.worker = ap (λ (v : MarkView). v.number) c.self.invariant.plain in
    subst (λ (v : SeatView). v.positions ≡ positions_of v.worker v.seen) c.self.view_is (c.self.invariant.owns.positions ∙ ap (λ k. positions_of k view.seen) number)

pub returns-clause-stored : goal.returns-clause-stored
returns-clause-stored g c =
    let view = cell_view c.self.inside.pass in
    let number : view.number ≡ c.self.inside.worker = ap (λ (v : MarkView). v.number) c.self.invariant.plain in
    subst (λ (v : SeatView). v.stored ≡ stored_of v.worker v.seen) c.self.view_is (c.self.invariant.owns.stored ∙ ap (λ k. stored_of k view.seen) number)

-- Where nothing was found.
use Rattle.std.proofs.Common.{ℕ}
use Rattle.design.specs.Compiled.{design_of}
use Rattle.lawful.proofs.FoundOrders.{nothing_is_found}
use Rattle.lawful.proofs.lawful.told_orders.Goals as goal

pub returns-in-Err : goal.returns-in-Err
returns-in-Err g c =
    let design = c.args.design.now in
    let limits = c.args.limits in
    let telling = c.args.telling.now in
    let is = c.nothing_found.ensures in
    nothing_is_found (g.T.RunTelling.is_journal telling design limits) (g.T.RunTelling.are_all telling design limits) (λ (class : ℕ → ℕ). g.T.RunTelling.runs telling design class limits) (design_of design) limits c.args.bounds c.nothing_found.result is.shown is.stopped is.nodes is.endless is.widest

pub returns-in-None : goal.returns-in-None
returns-in-None g c =
    let design = c.args.design.now in
    let limits = c.args.limits in
    let telling = c.args.telling.now in
    let is = c.nothing_found-in-None.ensures in
    nothing_is_found (g.T.RunTelling.is_journal telling design limits) (g.T.RunTelling.are_all telling design limits) (λ (class : ℕ → ℕ). g.T.RunTelling.runs telling design class limits) (design_of design) limits c.args.bounds c.nothing_found-in-None.result is.shown is.stopped is.nodes is.endless is.widest

-- A worker that found no update got a ticket, or none.
use Rattle.std.proofs.Common.{[], refl}
use Rattle.workers.proofs.Hands.{keeps_row, keeps_more, keeps_served, keeps_idle}
use Rattle.workers.proofs.worker.RunContext.idle.Goals as goal

pub returns-in-Some-take_soon-clause-keeps : goal.returns-in-Some-take_soon-clause-keeps
returns-in-Some-take_soon-clause-keeps g c on =
    let n = g.K.Naming.named in
    let old = c.args.worker.now in
    let updated = record old { seat = c.update.new.seat; owner = c.update.new.owner } in
    let got = record updated { owner = c.take_soon.new.owner; row = c.take_soon.new.row } in
    keeps_more n old updated c.count_and_serve.new.worker [] [] []
    (keeps_row n old updated [] [] c.in_default.ensures.keeps refl)
    (keeps_served n updated got c.count_and_serve.new.worker c.in-Some-take_soon.ticket refl c.take_soon.ensures.put c.in-Some-take_soon.ensures.got (c.count_and_serve.ensures.keeps on))

pub returns-in-None-clause-keeps : goal.returns-in-None-clause-keeps
returns-in-None-clause-keeps g c on =
    let n = g.K.Naming.named in
    let old = c.args.worker.now in
    let updated = record old { seat = c.update.new.seat; owner = c.update.new.owner } in
    let got = record updated { owner = c.take_soon.new.owner; row = c.take_soon.new.row } in
    let rested = record got { seat = c.rest.new.seat; owner = c.rest.new.owner } in
    keeps_more n old updated rested [] [] []
    (keeps_row n old updated [] [] c.in_default.ensures.keeps refl)
    (keeps_idle n updated got rested refl c.take_soon.ensures.put c.in-None.ensures.same (keeps_row n got rested [] [] (c.rest.ensures.keeps on) refl))

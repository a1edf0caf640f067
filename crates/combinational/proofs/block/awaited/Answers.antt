-- The last statement is an event control.
use Rattle.std.proofs.Common.{rules, ◌≡◌, true, sym, ap, ◌∙◌}
use Rattle.model.specs.Design.{Await}
use Rattle.design.specs.DesignTrees.{statement_of, statements_of}
use Rattle.combinational.proofs.Forms.{viewed_await, ends_waiting}
use Rattle.combinational.proofs.block.awaited.Goals as goal

pub returns-in-Await : goal.returns-in-Await
returns-in-Await c =
    let x = c.args.process.now in
    let last = c.in_ok-last.last.now in
    let ts = c.deref-in-Await.result.now in
    let repeats : x.repeats ≡ true = search rules in
    let waits : statement_of last ≡ Await ts (statements_of c.deref-in-Await-2.result.now) =
    viewed_await last c.in-Await.triggers c.in-Await.behind c.in-Await.is ∙ ap (λ xs. Await xs (statements_of c.in-Await.behind.items)) (sym c.deref-in-Await.ensures.value)
    ∙ ap (λ b. Await ts (statements_of b)) (sym c.deref-in-Await-2.ensures.value) in
    ends_waiting x c.in_ok-last.before.now last ts (statements_of c.deref-in-Await-2.result.now) repeats (sym c.deref.ensures.value ∙ c.in_ok-last.ensures.cases.0) waits

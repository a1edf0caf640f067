use Rattle.std.proofs.Common.{◌≡◌, length, Some, refl, sym, ap, ◌∙◌}
use Rattle.std.specs.Prelude.{slice_get}
use Rattle.std.proofs.lemmas.Option.{slice_get_read}
use Rattle.design.specs.DesignTrees.{statements_of}
use Rattle.combinational.proofs.Waits.{wait_found}
use Rattle.combinational.proofs.block.wait_behind.Goals as goal

pub returns-in-Some-Await : goal.returns-in-Some-Await
returns-in-Some-Await c =
    λ triggers behind is.
    let xs = c.nodes.result.now in
    let at = c.in_ok-place.place in
    let x = c.in-Some-Await.field-0.now in
    let read : slice_get xs at ≡ Some x = slice_get_read xs (length xs) at x refl c.in-Some-Await.ensures.lookup.3.0 c.in-Some-Await.ensures.lookup.1 in
    wait_found c.args.design.now c.args.process at c.in-Some-Await.control c.in-Some-Await.next c.first-first.result (statements_of c.args.before.now) triggers behind c.registers.ensures.compiled c.requires
    c.first-first.ensures.state c.first-first.ensures.whole c.in_ok-place.ensures (ap (λ ys. slice_get ys at) (sym c.nodes.ensures) ∙ read ∙ ap (λ n. Some n) c.in-Some-Await.field-0-is) is

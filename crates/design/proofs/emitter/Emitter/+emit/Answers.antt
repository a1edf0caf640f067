use Rattle.std.proofs.Common.{rules, arith, length, ◌+◌, ◌≡◌}
use Rattle.model.specs.Design.{size}
use Rattle.design.specs.DesignTrees.{statements_of}
use Rattle.design.specs.declared.tree.Statement.TheViews.{the_lemmas}
use Rattle.design.proofs.Views.{first_body, second_body, length_both, on_ok}
use Rattle.design.proofs.emitter.Emitter.+emit.Goals as goal

pub emit-emit_all-requires-in-If : goal.emit-emit_all-requires-in-If
emit-emit_all-requires-in-If t c =
    let q = first_body c.args.widths.now c.args.table.now (length c.args.self.now.nodes.items) c.args.statement.now c.in-If.condition c.in-If.body c.in-If.otherwise c.deref-in-If-3.result.now (length c.choice.new.self.nodes.items) c.in-If.is c.requires.sound c.requires.inside c.deref-in-If-3.ensures.value c.in_ok-choice-in-If.ensures.length in
    (search (rules, the_lemmas), (q.0, (c.requires.widths, q.1)))

pub emit-emit_all-requires-in-If-2 : goal.emit-emit_all-requires-in-If-2
emit-emit_all-requires-in-If-2 t c =
    let n = length c.args.self.now.nodes.items in
    let xs = c.deref-in-If-3.result.now in
    let there : length c.emit_all-in-If.new.self.nodes.items ≡ n + 1 + size (statements_of xs) = omega (arith, c.in_ok-choice-in-If.ensures.length, c.in_ok-emit_all-in-If.ensures.length) in
    let q = second_body c.args.widths.now c.args.table.now n c.args.statement.now c.in-If.condition c.in-If.body c.in-If.otherwise xs c.deref-in-If-4.result.now (length c.emit_all-in-If.new.self.nodes.items) c.in-If.is c.requires.sound c.requires.inside c.deref-in-If-3.ensures.value c.deref-in-If-4.ensures.value there in
    (search (rules, the_lemmas), (q.0, (c.requires.widths, q.1)))

pub emit-returns-in_ok-emit_all-in-If-clause-length : goal.emit-returns-in_ok-emit_all-in-If-clause-length
emit-returns-in_ok-emit_all-in-If-clause-length t c =
    let n = length c.args.self.now.nodes.items in
    let xs = c.deref-in-If-3.result.now in
    let ys = c.deref-in-If-4.result.now in
    let both = length_both c.args.statement.now c.in-If.condition c.in-If.body c.in-If.otherwise xs ys c.in-If.is c.deref-in-If-3.ensures.value c.deref-in-If-4.ensures.value in
    let first : length c.emit_all-in-If.new.self.nodes.items ≡ n + 1 + size (statements_of xs) = omega (arith, c.in_ok-choice-in-If.ensures.length, c.in_ok-emit_all-in-If.ensures.length) in
    on_ok c.emit_all-in-If-2.result (λ h. omega (arith, h, both, first)) c.emit_all-in-If-2.ensures.length

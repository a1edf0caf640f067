use Rattle.std.proofs.Common.{◌≡◌, ◌*◌, ◌≤◌, ◌∙◌, refl, ap, arith, sym, false}
use Rattle.model.specs.SourceTrees.{source_expression_of}
use Rattle.sizing.specs.Meanings.{replication_count}
use Rattle.sizing.specs.Parts.{part_trees}
use Rattle.sizing.proofs.Joining.{made_replication}
use Rattle.sizing.proofs.concatenations.JoinedParts.replication.Goals as goal

pub returns : goal.returns
returns c = λ n m ms e j.
    let wide : c.new.result ≡ c.args.self.width * c.in-Some.times = c.new.ensures ∙ (λ i. c.get.ensures.value i * c.get-2.ensures.value i) in
    let some : 1 ≤ c.in-Some.times = omega (arith, c.get-2.ensures.some, c.get-2.ensures.value) in
    made_replication n m ms c.args.self.width c.in-Some.times (record { width = c.new.result; signed = false }) (part_trees c.args.self)
    (source_expression_of c.in_ok-tree.tree) (source_expression_of c.in_ok-repeated.field-0) j (ap replication_count (sym e) ∙ c.in-Some.ensures) wide some refl
    c.in_ok-tree.ensures c.in_ok-repeated.ensures

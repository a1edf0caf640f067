-- What one process more assigns is together, and what all assign.
use Rattle.std.proofs.Common.{◌≡◌, ℕ, ◌≤◌, ◌++◌, List, length, ap, subst, ◌∙◌, arith}
use Rattle.design.specs.declared.tree.Process.{Process}
use Rattle.design.specs.declared.tree.Statement.{Statement}
use Rattle.design.specs.DesignTrees.{statements_of, tree_design}
use Rattle.loosejournals.specs.Classes.{targets_of, AreTogether, AreTogetherIn}
use Rattle.loosejournals.proofs.Together.{before_more, together_in}
use Rattle.loosejournals.proofs.classes.join_processes.Goals as goal

pub loop-process-preserved : goal.loop-process-preserved
loop-process-preserved c =
    let process = c.process-item.result in
    let all : c.as_slice.result.now ≡ targets_of (statements_of process.body.items) =
    c.as_slice.ensures.value
    ∙ (c.in_ok-add_targets.ensures
    ∙ (ap (λ (ts : List ℕ). ts ++ targets_of (statements_of c.deref.result.now)) c.clear.ensures.items
    ∙ ap (λ (ss : List Statement). targets_of (statements_of ss)) c.deref.ensures.value)) in
    before_more c.trees-process-items.result.now c.loop-process.classes c.join_all.new.classes c.loop-process.process-index process c.process-item.is (omega arith)
    c.join_all.ensures.kept (subst (λ (ts : List ℕ). AreTogether c.join_all.new.classes ts) all c.join_all.ensures.joined) c.loop-process.invariant

pub returns : goal.returns
returns c =
    let end : length c.trees-process-items.result.now ≤ c.loop-process.process-index = omega arith in
    subst (λ (processes : List Process). AreTogetherIn (tree_design c.args.design.now.widths processes) c.loop-process.classes) c.trees-process-items.ensures
    (together_in c.args.design.now.widths c.trees-process-items.result.now c.loop-process.classes c.loop-process.process-index end c.loop-process.invariant)

use Rattle.std.proofs.Common.{◌≡◌, length, ◌∙◌, arith}
use Rattle.statement_forms.specs.Views.{core_statements}
use Rattle.statement_forms.proofs.Taking.{branch_taken, all_taken}
use Rattle.statement_forms.proofs.choices.choice_of.Goals as goal

pub loop-branch-preserved : goal.loop-branch-preserved
loop-branch-preserved c =
    branch_taken c.loop-branch.left.items c.pop.new.self.items c.in-Some.branch (core_statements c.loop-branch.made) (core_statements c.in_ok-more.more) c.in-Some.ensures.items c.in_ok-more.ensures ∙ c.loop-branch.invariant

pub returns : goal.returns
returns c =
    let none : length c.loop-branch.left.items ≡ 0 = omega (arith, c.in_default.ensures.cases.0) in
    all_taken c.loop-branch.left.items (core_statements c.loop-branch.made) none ∙ c.loop-branch.invariant

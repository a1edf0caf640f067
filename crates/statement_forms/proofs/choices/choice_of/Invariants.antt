-- What is made stands for the branches that were taken from the end.
use Rattle.std.proofs.Common.{◌≡◌, map, vec_len}
use Rattle.statement_forms.specs.Views.{core_statements}
use Rattle.statement_forms.specs.Forms.{branch_of, if_chain}
use Rattle.statement_forms.proofs.choices.choice_of.Given as goal

abbrev pub invariant-loop-branch : goal.invariant-loop-branch
invariant-loop-branch l = if_chain (map branch_of l.left.items) (core_statements l.made) ≡ if_chain (map branch_of l.initial.left.items) (core_statements l.initial.made)

abbrev pub decreases-loop-branch : goal.decreases-loop-branch
decreases-loop-branch l = vec_len l.left

-- The difference of a run that prints the same and ends alike.
use Rattle.races.proofs.Alike.{differ_unseen}
use Rattle.races.proofs.unseen.unseen_difference.Goals as goal

pub returns-then-is_alike_at_rest : goal.returns-then-is_alike_at_rest
returns-then-is_alike_at_rest c =
    let yes_it_is = c.if-is_alike_at_rest.true in
    differ_unseen c.difference_by.result c.args.task.design.now c.args.task.limits c.args.task.original.now c.args.exchanged.now c.requires (c.is_alike_at_rest.ensures.alike yes_it_is)
    (c.is_alike_at_rest.ensures.rests yes_it_is) c.difference_by.ensures

-- The difference of the two journals.
use Rattle.std.proofs.Common.{List, IfOk, IfSome, subst}
use Rattle.model.specs.declared.entry.Entry.{Entry}
use Rattle.races.specs.Unseen.{DifferWhenPassing}
use Rattle.races.proofs.unseen.difference_beside.Goals as goal

pub returns : goal.returns
returns c =
    let code = c.args.task.design.now in
    let found = c.first_difference.result in
    let second = c.as_slice-second.result.now in
    let items : List Entry = c.args.task.original.now.journal.items in
    subst (λ (es : List Entry). IfOk found (λ d. IfSome d (DifferWhenPassing code items es))) c.as_slice-second.ensures.value
    (subst (λ (es : List Entry). IfOk found (λ d. IfSome d (DifferWhenPassing code es second))) c.as_slice-first.ensures.value c.first_difference.ensures)

-- Whatever the register may pass to is among the values.
use Rattle.std.proofs.Common.{List, subst}
use Rattle.logic4.specs.Vector.{Vector}
use Rattle.certificates.specs.declared.changes.NotedChange.{NotedChange}
use Rattle.std.specs.List.{All}
use Rattle.passing.specs.Moves.{HaveAfter}
use Rattle.passing.proofs.ChosenMoves.{AreChosenFrom, choice_there}
use Rattle.passing.proofs.choices.choices_of.Goals as goal

pub returns : goal.returns
returns c = λ tracked.
    let moves = c.args.moves.now in
    let r = c.args.register in
    let values = c.in_ok-values.values.items in
    let choices = c.add_all.new.choices.items in
    choice_there moves r c.args.start values choices tracked c.in_ok-values.ensures.start
    (subst (λ (list : List NotedChange). HaveAfter list r values) c.deref.ensures.value c.in_ok-values.ensures.after)
    (subst (λ (vs : List Vector). All (AreChosenFrom moves r vs choices) vs) c.deref-2.ensures.value c.in_ok-add_all.ensures)

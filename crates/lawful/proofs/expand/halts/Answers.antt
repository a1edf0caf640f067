-- One end alone.
use Rattle.std.proofs.Common.{[], ◌∷◌, ◌++◌, refl, ap, ◌∙◌, List}
use Rattle.model.specs.declared.end.End.{End}
use Rattle.loose.specs.declared.transition.LooseTransition.{LooseTransition}
use Rattle.explore.specs.declared.EndedPath.{EndedPath}
use Rattle.lawful.proofs.expand.halts.Goals as goal

pub returns-clause-one : goal.returns-clause-one
returns-clause-one c =
    let one : EndedPath LooseTransition End = record { printed = c.new.result; end = c.args.end; moves = c.new-2.result } in
    (one, c.in_ok-push.ensures.items ∙ ap (λ (l : List (EndedPath LooseTransition End)). l ++ one ∷ []) c.new-ended.ensures.items, refl, c.new.ensures.items, c.new-2.ensures.items)

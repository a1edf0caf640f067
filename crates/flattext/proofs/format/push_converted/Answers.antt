use Rattle.std.proofs.Common.{◌<◌, ◌∷◌, ◌++◌, length, ap, sym, ◌∙◌, arith}
use Rattle.model.specs.Syntax.{Argument}
use Rattle.flattext.proofs.Shown.{none_shown}
use Rattle.flattext.proofs.format.push_converted.Goals as goal

pub returns-in-empty : goal.returns-in-empty
returns-in-empty c =
    let none : length c.args.arguments.now < 1 = omega (arith, c.in-empty.len_below) in
    λ pieces. ap (λ w. c.args.text.now.items ++ w) (none_shown pieces c.args.arguments.now none ∙ sym (none_shown (Argument c.args.conversion ∷ pieces) c.args.arguments.now none))

use Rattle.std.proofs.Common.{map}
use Rattle.std.proofs.lemmas.Result.{IfOk-weaker}
use Rattle.syntax_tree.specs.Expressions.{plain_expression_of}
use Rattle.design_scopes.specs.Places.{means}
use Rattle.statement_parts.specs.Statements.{plain_argument}
use Rattle.lowering.specs.Prints.{Adds, IsFormatted, IsArgumentShown}
use Rattle.lowering.specs.Shown.{shown_in}
use Rattle.lowering.proofs.Formats.{text_argument, value_argument}
use Rattle.lowering.proofs.prints.PrintParts.add_argument.Goals as goal

pub returns-in-Some-clause-shows : goal.returns-in-Some-clause-shows
returns-in-Some-clause-shows c =
    let n = means c.args.at.place in
    let path = c.args.at.path.now in
    let e = plain_expression_of c.args.first.now in
    let format = c.in-Some.format.now in
    let others = map plain_argument c.args.others.now in
    let old = shown_in c.args.self.now in
    let new = shown_in c.add_format.new.self in
    IfOk-weaker c.add_format.result (λ left. Adds (IsFormatted n path format others (map plain_argument left.now)) old new) (λ left. Adds (IsArgumentShown n path e others (map plain_argument left.now)) old new)
    (λ left h. text_argument n path e format others (map plain_argument left.now) old new c.in-Some.ensures h) c.add_format.ensures.shows

pub returns-in_ok-add_converted-in-None-clause-shows : goal.returns-in_ok-add_converted-in-None-clause-shows
returns-in_ok-add_converted-in-None-clause-shows c =
    value_argument (means c.args.at.place) c.args.at.path.now (plain_expression_of c.args.first.now) (map plain_argument c.args.others.now) (shown_in c.args.self.now) (shown_in c.add_converted.new.self) c.in-None.ensures c.in_ok-add_converted-in-None.ensures

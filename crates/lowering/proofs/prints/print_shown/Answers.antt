use Rattle.std.proofs.Common.{map, take, drop, length, ◌-◌, ap, subst}
use Rattle.syntax_tree.specs.Expressions.{plain_expression_of}
use Rattle.design_scopes.specs.Places.{means}
use Rattle.statement_parts.specs.Statements.{plain_argument}
use Rattle.lowering.specs.Prints.{Arguments}
use Rattle.lowering.specs.Shown.{shown_in}
use Rattle.lowering.proofs.Fronts.{none_of}
use Rattle.lowering.proofs.Formats.{PrintSoFar, print_start, print_more, print_end, arguments_front}
use Rattle.lowering.proofs.prints.print_shown.Goals as goal

pub loop-left-init : goal.loop-left-init
loop-left-init c = print_start (means c.args.at.place) c.args.at.path.now (map plain_argument c.args.arguments.now) (shown_in c.new-shown.result) c.new-shown.ensures

pub loop-left-preserved : goal.loop-left-preserved
loop-left-preserved c =
    let xs = c.loop-left.left.now in
    let n = means c.args.at.place in
    let arguments = map plain_argument c.args.arguments.now in
    print_more n c.args.at.path.now (plain_expression_of c.in-Some.first) arguments (map plain_argument (take (length xs - 1) (drop 1 xs))) (map plain_argument c.in_ok-more.more.now) (shown_in c.loop-left.shown) (shown_in c.add_argument.new.self)
    (subst (λ (left : Arguments). PrintSoFar n c.args.at.path.now arguments left (shown_in c.loop-left.shown)) (arguments_front xs c.argument-item.result c.in-Some.first c.in-len1-up.len_at_least c.argument-item.is c.in-Some.is) c.loop-left.invariant)
    c.in_ok-more.ensures.shows

pub returns : goal.returns
returns c =
    let n = means c.args.at.place in
    let arguments = map plain_argument c.args.arguments.now in
    print_end n c.args.at.path.now arguments (shown_in c.loop-left.shown)
    (subst (λ (left : Arguments). PrintSoFar n c.args.at.path.now arguments left (shown_in c.loop-left.shown)) (ap (map plain_argument) (none_of c.loop-left.left.now c.in_default.len_below)) c.loop-left.invariant)

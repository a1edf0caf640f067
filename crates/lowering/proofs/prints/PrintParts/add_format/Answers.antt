use Rattle.std.proofs.Common.{map, take, drop, length, get_or, ◌-◌, subst}
use Rattle.design_scopes.specs.Places.{means}
use Rattle.statement_parts.specs.Statements.{SourceText, plain_argument}
use Rattle.lowering.specs.Shown.{shown_in}
use Rattle.lowering.proofs.Fronts.{front_of, none_of}
use Rattle.lowering.proofs.Formats.{FormatSoFar, format_start, format_part, format_end, fewer_arguments, fewer_of}
use Rattle.lowering.proofs.prints.PrintParts.add_format.Goals as goal

pub loop-text-init : goal.loop-text-init
loop-text-init c = format_start (means c.args.at.place) c.args.at.path.now c.args.format.now (map plain_argument c.args.arguments.now) (shown_in c.args.self.now)

pub loop-text-preserved : goal.loop-text-preserved
loop-text-preserved c =
    let text = c.loop-text.text.now in
    format_part (means c.args.at.place) c.args.at.path.now c.args.format.now text (take (length text - 1) (drop 1 text)) (get_or text 0 0) c.in_ok-behind.behind.now (map plain_argument c.args.arguments.now) (map plain_argument c.loop-text.left.now)
    (map plain_argument c.in_ok-behind.more.now) (shown_in c.args.self.now) (shown_in c.loop-text.self) (shown_in c.add_piece.new.self) c.loop-text.invariant (front_of text 0 c.in-len1-up.len_at_least) c.in_ok-behind.ensures.shows
    (fewer_arguments c.in_ok-behind.more.now c.loop-text.left.now c.in_ok-behind.ensures.fewer)

pub returns-clause-fewer : goal.returns-clause-fewer
returns-clause-fewer c = fewer_of c.loop-text.left.now c.args.arguments.now c.loop-text.invariant.fewer

pub returns-clause-shows : goal.returns-clause-shows
returns-clause-shows c =
    let n = means c.args.at.place in
    let arguments = map plain_argument c.args.arguments.now in
    let left = map plain_argument c.loop-text.left.now in
    format_end n c.args.at.path.now c.args.format.now arguments left (shown_in c.args.self.now) (shown_in c.loop-text.self)
    (subst (λ (text : SourceText). FormatSoFar n c.args.at.path.now c.args.format.now text arguments left (shown_in c.args.self.now) (shown_in c.loop-text.self)) (none_of c.loop-text.text.now c.in_default.len_below) c.loop-text.invariant)
